pub mod Fronts
mod Courses
mod Onward
mod Taking
