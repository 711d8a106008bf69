-- What the contracts cite.
pub mod Words
pub mod Answers
pub mod Records
pub mod Written
pub mod Lent
