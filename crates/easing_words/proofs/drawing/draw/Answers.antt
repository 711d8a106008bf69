-- `draw` meets its contract, arm by arm; the last is no plain kind. Assumes nothing.
use Rattle.easing.specs.Kinds.{curve_of}
use Rattle.easing.specs.Params.{with_params}
use Rattle.easing_words.specs.Drawing.{draw_of}
use Rattle.easing_words.proofs.Plain.{rest_plain}
use Rattle.easing_words.proofs.drawing.draw.Goals as goal

pub returns-in-0 : goal.returns-in-0
unfolding draw_of curve_of with_params
returns-in-0 c = simp c.in-0.is

pub returns-in-1 : goal.returns-in-1
unfolding draw_of curve_of with_params
returns-in-1 c = simp (c.in-1.is, c.ease_in_quad.ensures)

pub returns-in-2 : goal.returns-in-2
unfolding draw_of curve_of with_params
returns-in-2 c = simp (c.in-2.is, c.ease_out_quad.ensures)

pub returns-in-3 : goal.returns-in-3
unfolding draw_of curve_of with_params
returns-in-3 c = simp (c.in-3.is, c.ease_in_out_quad.ensures)

pub returns-in-4 : goal.returns-in-4
unfolding draw_of curve_of with_params
returns-in-4 c = simp (c.in-4.is, c.ease_in_cubic.ensures)

pub returns-in-5 : goal.returns-in-5
unfolding draw_of curve_of with_params
returns-in-5 c = simp (c.in-5.is, c.ease_out_cubic.ensures)

pub returns-in-6 : goal.returns-in-6
unfolding draw_of curve_of with_params
returns-in-6 c = simp (c.in-6.is, c.ease_in_out_cubic.ensures)

pub returns-in-7 : goal.returns-in-7
unfolding draw_of curve_of with_params
returns-in-7 c = simp (c.in-7.is, c.ease_in_quart.ensures)

pub returns-in-8 : goal.returns-in-8
unfolding draw_of curve_of with_params
returns-in-8 c = simp (c.in-8.is, c.ease_out_quart.ensures)

pub returns-in-9 : goal.returns-in-9
unfolding draw_of curve_of with_params
returns-in-9 c = simp (c.in-9.is, c.ease_in_out_quart.ensures)

pub returns-in-10 : goal.returns-in-10
unfolding draw_of curve_of with_params
returns-in-10 c = simp (c.in-10.is, c.ease_in_quint.ensures)

pub returns-in-11 : goal.returns-in-11
unfolding draw_of curve_of with_params
returns-in-11 c = simp (c.in-11.is, c.ease_out_quint.ensures)

pub returns-in-12 : goal.returns-in-12
unfolding draw_of curve_of with_params
returns-in-12 c = simp (c.in-12.is, c.ease_in_out_quint.ensures)

pub returns-in-19 : goal.returns-in-19
unfolding draw_of curve_of with_params
returns-in-19 c = simp (c.in-19.is, c.ease_in_circ.ensures)

pub returns-in-20 : goal.returns-in-20
unfolding draw_of curve_of with_params
returns-in-20 c = simp (c.in-20.is, c.ease_out_circ.ensures)

pub returns-in-21 : goal.returns-in-21
unfolding draw_of curve_of with_params
returns-in-21 c = simp (c.in-21.is, c.ease_in_out_circ.ensures)

pub returns-in-22 : goal.returns-in-22
unfolding draw_of curve_of with_params
returns-in-22 c = simp (c.in-22.is, c.ease_in_back.ensures)

pub returns-in-23 : goal.returns-in-23
unfolding draw_of curve_of with_params
returns-in-23 c = simp (c.in-23.is, c.ease_out_back.ensures)

pub returns-in-24 : goal.returns-in-24
unfolding draw_of curve_of with_params
returns-in-24 c = simp (c.in-24.is, c.ease_in_out_back.ensures)

pub returns-in-28 : goal.returns-in-28
unfolding draw_of curve_of with_params
returns-in-28 c = simp (c.in-28.is, c.ease_in_bounce.ensures)

pub returns-in-29 : goal.returns-in-29
unfolding draw_of curve_of with_params
returns-in-29 c = simp (c.in-29.is, c.ease_out_bounce.ensures)

pub returns-in-30 : goal.returns-in-30
unfolding draw_of curve_of with_params
returns-in-30 c = simp (c.in-30.is, c.ease_in_out_bounce.ensures)

pub returns-in_default : goal.returns-in_default
unfolding draw_of curve_of with_params
returns-in_default c = simp (rest_plain _ c.in_default.in_default-own.rest)
