-- Which wires the bits hold to be set, as a gate's results are added one by one; with all of them, what is set before the gate after it.
-- Assumes nothing.
use mathlib.Core.Path.{◌≡◌, sym, ap, ◌∙◌}
use mathlib.Core.Bool.{Bool, ◌||◌, or-false, or_assoc}
use mathlib.Core.List.{List}
use Prim.Native.Nat.{ℕ, suc, ◌+◌, ◌*◌, ◌<◌}
use native.Mathlib.Numerals.{add-one}
use lib.Dec.{eqb}
use lib.ListN.{length}
use Rattle.bristol_form.specs.Says.{among, set_by, is_set, gate_at, result_count, results_place, result}
use Rattle.bristol_form.specs.Private.{Holds, held, held_bit}
use Rattle.bristol_form.proofs.Lookup.{among_none, among_step, set_step}

module _ (text bits : List ℕ) (j : ℕ) where
  pub held_set : Holds text bits j 0 → (w : ℕ) → w < held → held_bit bits w ≡ is_set text j w
  held_set h w l = h.each w l ∙ ap (λ (t : Bool). is_set text j w || t) (among_none text (results_place text (gate_at text j)) w) ∙ or-false (is_set text j w)

pub holds_as : (text bits : List ℕ) (j y n : ℕ) → y ≡ n → Holds text bits j y → Holds text bits j n
holds_as text bits j y n e h = record { long = h.long; each = λ v b. h.each v b ∙ ap (λ (m : ℕ). is_set text j v || set_by text (gate_at text j) m v) e }

-- one wire more, the result of index y
pub holds_more : (text bits later : List ℕ) (j y w : ℕ) → Holds text bits j y → length later ≡ length bits → ((v : ℕ) → v < held → held_bit later v ≡ held_bit bits v || eqb v w) → w ≡ result text (gate_at text j) y → Holds text later j (y + 1)
holds_more text bits later j y w h l e r =
    let p = results_place text (gate_at text j) in
    record {
      long = ap (λ (n : ℕ). 8 * n) l ∙ h.long;
      each = λ v b.
          e v b
          ∙ ap (λ (t : Bool). t || eqb v w) (h.each v b)
          ∙ or_assoc (is_set text j v) (among text p y v) (eqb v w)
          ∙ ap (λ (n : ℕ). is_set text j v || (among text p y v || eqb v n)) r
          ∙ ap (λ (t : Bool). is_set text j v || t) (sym (among_step text p v y) ∙ ap (λ (n : ℕ). among text p n v) (sym (add-one y)));
    }

-- all results of gate j: what is set before the gate after it
pub holds_next : (text bits : List ℕ) (j n : ℕ) → n ≡ result_count text (gate_at text j) → Holds text bits j n → Holds text bits (suc j) 0
holds_next text bits j n e h =
    record {
      long = h.long;
      each = λ v b.
          (holds_as text bits j n (result_count text (gate_at text j)) e h).each v b
          ∙ sym (set_step text v j)
          ∙ sym (or-false (is_set text (suc j) v))
          ∙ ap (λ (t : Bool). is_set text (suc j) v || t) (sym (among_none text (results_place text (gate_at text (suc j))) v));
    }
