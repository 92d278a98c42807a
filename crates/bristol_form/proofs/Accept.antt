-- Both directions: what reading a text accepts is the form, and its circuit within the limits, and nothing else (proofs/AcceptForm.antt, proofs/AcceptLimits.antt);
-- here for both together.
-- Assumes nothing.
use mathlib.Core.Path.{◌≡◌, ◌∙◌}
use mathlib.Core.List.{List}
use Prim.Native.Nat.{ℕ}
use Rattle.params.specs.Refusal.{answer}
use Rattle.circuit.proofs.Accept.{both_done, or_done}
use Rattle.bristol_form.specs.Form.{form_answer, limit_answer, text_answer}
use Rattle.bristol_form.specs.Valid.{InForm, InLimits}
use Rattle.bristol_form.proofs.AcceptHead.{number_done}
pub use Rattle.bristol_form.proofs.AcceptForm.{accepted, not_refused}
pub use Rattle.bristol_form.proofs.AcceptLimits.{within, not_limited}

module _ (text : List ℕ) where
  pub taken : (text_answer text).number ≡ 0 → InForm text × InLimits text
  unfolding text_answer
  taken h = let s = both_done (form_answer text) (limit_answer text) h in (accepted text s.0, within text s.1)

  pub takes : InForm text → InLimits text → text_answer text ≡ answer 0
  unfolding text_answer
  takes f w = or_done (form_answer text) (limit_answer text) (number_done (not_refused text f)) ∙ not_limited text w

  -- an answer of number 0 has place 0
  pub answer_done : (text_answer text).number ≡ 0 → text_answer text ≡ answer 0
  answer_done h = let t = taken h in takes t.0 t.1
