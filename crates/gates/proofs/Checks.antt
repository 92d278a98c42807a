-- The refusals taken apart: what each test of a number tells, and that good arguments are not refused.
-- Assumes nothing.
use mathlib.Core.Path.{◌≡◌, refl, sym, ap, ◌∙◌}
use Prim.Native.Nat.{ℕ, ◌+◌, ◌≤◌}
use native.Mathlib.Omega.{arith}
use lib.ListN.{length, take, replicate}
use Rattle.params.specs.declared.Params.{Params}
use Rattle.std.specs.Prelude.{Ok, Err}
use Rattle.params.specs.declared.Sizes.{Sizes}
use Rattle.params.specs.declared.refusal.Refusal.{Refusal}
use Rattle.params.specs.Ranges.{params_number, InRange}
use Rattle.params.specs.Refusal.{answer, given, outcome}
use Rattle.params.specs.Sizes.{size, sizes_in}
use Rattle.params.proofs.Answers.{given_ok, given_done}
use Rattle.params.proofs.Ranges.{in_range, size_to}
use Rattle.refusals.proofs.Table.{good, done}
use Rattle.words.proofs.Scratch.{scratch}
use Rattle.gates.specs.Refusals.{gate_checks, gate_number}
use Rattle.gates.specs.Private.{GateGood}

module _ (p : Params) (la lb lk ls lo : ℕ) where
  pub gate_good : gate_number p la lb lk ls lo ≡ 0 → GateGood p la lb lk ls lo
  unfolding gate_number
  gate_good e =
      let f = good p (gate_checks p la lb lk ls lo) refl e in
      record { good = f.0; first = f.1.0; second = f.1.1.0; switching = f.1.1.1.0; bootstrapping = f.1.1.1.1.0; result = f.1.1.1.1.1.0 }

  -- for callers: good arguments are not refused
  pub gate_done : GateGood p la lb lk ls lo → gate_number p la lb lk ls lo ≡ 0
  unfolding gate_number
  gate_done g = done p (gate_checks p la lb lk ls lo) (g.good, (g.first, (g.second, (g.switching, (g.bootstrapping, (g.result, tt))))))

-- ---- what a passed check gives

module _ {n : ℕ} where
  -- the number is 0, and the parameters are those that were checked
  pub checked_same : {p q : Params} → Ok q ≡ given (answer n) p → (n ≡ 0) × (q ≡ p)
  checked_same {p} e = let z = given_ok (answer n) p (sym e) in (z, (let h = e ∙ given_done (answer n) p z in cc))

  -- no call is refused whose number is 0
  pub not_refused : {r : Refusal} → Err r ≡ outcome (answer n) → n ≡ 0 → ⊥
  not_refused e z = let h = e ∙ given_done (answer n) tt z in cc

-- the words of a ciphertext of level 1 fit the scratch, and the part that is lent has them
module _ {q : Params} {s : Sizes} (i : InRange q × (s ≡ sizes_in q)) where
  pub level1_to : s.level1 ≤ 1025
  level1_to = let e = ap (λ (s : Sizes). s.level1) i.1 in omega (arith, e, size_to q i.0)

  pub level1_lent : {p : Params} → q ≡ p → length {A = ℕ} (take s.level1 (replicate 1025 0)) ≡ size p + 1
  level1_lent e = scratch 1025 _ level1_to ∙ ap (λ (s : Sizes). s.level1) i.1 ∙ ap (λ (p : Params). size p + 1) e

-- so do the words of level 0 theirs
pub level0_to : (p : Params) (m : ℕ) → params_number p ≡ 0 → m ≡ p.n + 1 → m ≤ 1101
level0_to p m z e = omega (arith, in_range p z)

pub level0_lent : (p : Params) (m : ℕ) → params_number p ≡ 0 → m ≡ p.n + 1 → length {A = ℕ} (take m (replicate 1101 0)) ≡ p.n + 1
level0_lent p m z e = scratch 1101 m (level0_to p m z e) ∙ e
