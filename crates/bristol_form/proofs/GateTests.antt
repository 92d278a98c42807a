-- The tests of a gate's numbers and name, as the routines make them.
-- Assumes nothing.
use mathlib.Core.Path.{◌≡◌, refl, ap, ◌∙◌}
use mathlib.Core.Bool.{Bool, true, false, cond, ◌&&◌, ◌||◌}
use mathlib.Core.List.{List}
use Prim.Native.Nat.{ℕ}
use lib.Dec.{leb, eqb}
use Rattle.bristol_form.specs.Says.{gates, wires, set_count}
use Rattle.bristol_form.specs.Form.{count_good, name_good}
use Rattle.bristol_form.specs.Private.{operands_fit, count_fits}

-- ---- the numbers of operands and results

pub count_good_is : (text : List ℕ) (j k l set total most : ℕ) → k ≡ l → set ≡ set_count text j → total ≡ gates text → most ≡ wires text → count_fits k set total most j ≡ count_good text j l
unfolding count_good count_fits operands_fit
count_good_is text j k l set total most K S T M =
    ap (λ (n : ℕ). count_fits n set total most j) K
    ∙ ap (λ (n : ℕ). count_fits l n total most j) S
    ∙ ap (λ (n : ℕ). count_fits l (set_count text j) n most j) T
    ∙ ap (λ (n : ℕ). count_fits l (set_count text j) (gates text) n j) M

-- ---- names

-- a gate with several operands does not ask whether the first is set
ask_one_by : (t set : Bool) (x : Bool → Bool) (z : Bool) → cond t (x (t && set)) z ≡ cond t (x set) z
ask_one_by true set x z = refl
ask_one_by false set x z = refl

pub ask_one : (k constant : ℕ) (set : Bool) (name : ℕ) → name_good k constant (eqb k 1 && set) name ≡ name_good k constant set name
unfolding name_good
ask_one k constant set name =
    ask_one_by (eqb k 1) set (λ s. (eqb name 3 || eqb name 5) && s || eqb name 4 && leb constant 1) (eqb name 6 || eqb k 2 && (eqb name 1 || eqb name 2))
