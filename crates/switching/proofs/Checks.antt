-- Switching's refusals: what is refused and what is not, from the table's laws, and the laws that callers use.
-- Assumes nothing.
use mathlib.Core.Path.{◌≡◌, refl, ap, ◌∙◌}
use mathlib.Core.List.{List}
use Prim.Native.Nat.{ℕ, ◌+◌}
use lib.ListN.{length}
use Rattle.params.specs.declared.Params.{Params}
use Rattle.params.specs.Refusal.{Answer}
use Rattle.params.specs.Refusal.{answer, if_done}
use Rattle.params.specs.Ranges.{params_number}
use Rattle.params.specs.Sizes.{size, switching_words}
use Rattle.params.proofs.Answers.{when_done}
use Rattle.params.proofs.Ranges.{in_range}
use Rattle.refusals.proofs.Table.{good, done}
use Rattle.ring.specs.Poly.{minus}
use Rattle.ring.proofs.Tab.{length-tab}
use Rattle.switching.specs.Switched.{switch_checks, switch_number, switched}
use Rattle.switching.specs.Private.{SwitchGood}

module _ (p : Params) (ls lk lo : ℕ) where
  pub switch_good : switch_number p ls lk lo ≡ 0 → SwitchGood p ls lk lo
  unfolding switch_number
  switch_good e = let f = good p (switch_checks p ls lk lo) refl e in record { range = in_range p f.0; from = f.1.0; rows = f.1.1.0; into = f.1.1.1.0 }

  -- good arguments are not refused
  pub switch_done : params_number p ≡ 0 → ls ≡ size p + 1 → lk ≡ switching_words p → lo ≡ p.n + 1 → switch_number p ls lk lo ≡ 0
  unfolding switch_number
  switch_done e s k o = done p (switch_checks p ls lk lo) (e, (s, (k, (o, tt))))

-- ---- for callers, at good arguments

module _ (p : Params) (src key o : List ℕ) (e : params_number p ≡ 0) (ls : length src ≡ size p + 1) (lk : length key ≡ switching_words p) (lo : length o ≡ p.n + 1) where
  -- the call did its work
  pub switch_answered : {r : Answer} → r ≡ answer (switch_number p (length src) (length key) (length o)) → r ≡ answer 0
  switch_answered q = q ∙ ap answer (switch_done p (length src) (length key) (length o) e ls lk lo)

  -- and the slice holds the switched sample
  pub switch_written : {out : List ℕ} → out ≡ if_done (switch_number p (length src) (length key) (length o)) (switched p key src) o → out ≡ switched p key src
  switch_written q = q ∙ when_done _ _ _ (switch_done p (length src) (length key) (length o) e ls lk lo)

-- what is written: n + 1 words
pub switched-length : (p : Params) (key src : List ℕ) → length (switched p key src) ≡ p.n + 1
unfolding switched minus
switched-length p key src = length-tab (p.n + 1) _
