-- The parts of a text as the routines write them: each is the part that the definitions name, the numbers being those that were read.
-- Assumes nothing.
use mathlib.Core.Path.{◌≡◌, ap, ap₂, ◌∙◌}
use mathlib.Core.List.{List, [], ◌∷◌, ◌++◌}
use Prim.Native.Nat.{ℕ, ◌+◌}
use lib.ListN.{length}
use Rattle.circuit.specs.Form.{inputs, gates, outputs, kind_at, operand_at, output_at}
use Rattle.bristol_export.specs.Steps.{source_of, step_at}
use Rattle.bristol_export.specs.Private.{laid}
use Rattle.bristol_export.specs.Text.{ended, space, name_end, two_text, one_text, line_text, lines_to, first_wire, text_wire, step_text, steps_text, gate_text, output_text, lines, head_text}
use Rattle.bristol_export.proofs.Laid.{Put}

-- a text that is written is another that it equals
pub put_is : (o : List ℕ) (i : ℕ) (p q : List ℕ) {out : List ℕ} {j : ℕ} → p ≡ q → Put o i p out j → Put o i q out j
put_is o i p q e w = record { text = w.text ∙ ap (laid o i) e; place = w.place ∙ ap (λ (t : List ℕ). i + length t) e }

module _ (name x y n : ℕ) where
  pub line_xor : name ≡ 1 → two_text x y n (32 ∷ 88 ∷ 79 ∷ 82 ∷ 10 ∷ []) ≡ line_text name x y n
  unfolding line_text name_end
  line_xor e = rw e

  pub line_and : name ≡ 2 → two_text x y n (32 ∷ 65 ∷ 78 ∷ 68 ∷ 10 ∷ []) ≡ line_text name x y n
  unfolding line_text name_end
  line_and e = rw e

  pub line_inv : name ≡ 3 → one_text x n (32 ∷ 73 ∷ 78 ∷ 86 ∷ 10 ∷ []) ≡ line_text name x y n
  unfolding line_text name_end
  line_inv e = rw e

  pub line_eq : name ≡ 4 → one_text x n (32 ∷ 69 ∷ 81 ∷ 10 ∷ []) ≡ line_text name x y n
  unfolding line_text name_end
  line_eq e = rw e

  pub line_eqw : name ≡ 5 → one_text x n (32 ∷ 69 ∷ 81 ∷ 87 ∷ 10 ∷ []) ≡ line_text name x y n
  unfolding line_text name_end
  line_eqw e = rw e

pub step_is : (k a b c n s : ℕ) {name f g x y : ℕ} → name ≡ (step_at k s).name → f ≡ (step_at k s).first → g ≡ (step_at k s).second → x ≡ source_of f a b c n → y ≡ source_of g a b c n
    → line_text name x y (n + s) ≡ step_text k a b c n s
unfolding step_text
step_is k a b c n s {name} {f} {g} {x} {y} en ef eg ex ey =
    ap (λ (m : ℕ). line_text m x y (n + s)) en
    ∙ ap₂ (λ (p q : ℕ). line_text (step_at k s).name p q (n + s)) (ex ∙ ap (λ (z : ℕ). source_of z a b c n) ef) (ey ∙ ap (λ (z : ℕ). source_of z a b c n) eg)

pub gate_is : (bs : List ℕ) (g : ℕ) {k a b c n : ℕ} → k ≡ kind_at bs g → a ≡ text_wire bs (operand_at bs g 0) → b ≡ text_wire bs (operand_at bs g 1) → c ≡ text_wire bs (operand_at bs g 2) → n ≡ first_wire bs g
    → steps_text k a b c n ≡ gate_text bs g
unfolding gate_text
gate_is bs g ek ea eb ec en = cc

pub output_is : (bs : List ℕ) (o : ℕ) {w m : ℕ} → w ≡ text_wire bs (output_at bs o) → m ≡ first_wire bs (gates bs) + o → line_text 5 w 0 m ≡ output_text bs o
unfolding output_text
output_is bs o ew em = ap₂ (λ (w m : ℕ). line_text 5 w 0 m) ew em

pub head_is : (bs : List ℕ) {l i o : ℕ} → l ≡ lines_to bs (gates bs) → i ≡ inputs bs → o ≡ outputs bs
    → ended (l + o) space ++ ended (i + (l + o)) (10 ∷ 49 ∷ 32 ∷ []) ++ ended i (10 ∷ 49 ∷ 32 ∷ []) ++ ended o (10 ∷ 10 ∷ []) ≡ head_text bs
unfolding head_text lines
head_is bs {l} {i} {o} el ei eo =
    ap (λ (z : ℕ). ended (z + o) space ++ ended (i + (z + o)) (10 ∷ 49 ∷ 32 ∷ []) ++ ended i (10 ∷ 49 ∷ 32 ∷ []) ++ ended o (10 ∷ 10 ∷ [])) el
    ∙ ap₂ (λ (y z : ℕ). ended (lines_to bs (gates bs) + z) space ++ ended (y + (lines_to bs (gates bs) + z)) (10 ∷ 49 ∷ 32 ∷ []) ++ ended y (10 ∷ 49 ∷ 32 ∷ []) ++ ended z (10 ∷ 10 ∷ [])) ei eo
