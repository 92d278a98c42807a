-- What the callees leave, one after the other, makes the choice: each link's arguments are good, so each call does its work.
-- Assumes nothing.
use mathlib.Core.Path.{◌≡◌, refl, ap, ap₂, ◌∙◌}
use mathlib.Core.List.{List}
use Prim.Native.Nat.{ℕ, ◌+◌}
use lib.ListN.{length}
use Rattle.params.specs.declared.Params.{Params}
use Rattle.params.specs.Refusal.{if_done}
use Rattle.params.specs.Sizes.{size}
use Rattle.tlwe.specs.declared.Level.TheVariants.{Zero, One}
use Rattle.tlwe.proofs.Checks.{linear_done}
use Rattle.switching.proofs.Checks.{switch_done}
use Rattle.params.proofs.Answers.{when_done}
use Rattle.tlwe.specs.Linear.{linear_number, linear_out, negative}
use Rattle.switching.specs.Switched.{switch_number, switched}
use Rattle.gate_sums.specs.declared.Kind.TheVariants.{Or, And, AndNy}
use Rattle.gate_sums.specs.Sum.{summed, mux_sum}
use Rattle.gate_sums.proofs.Sums.{mux_sum_length}
use Rattle.samples.specs.Sample.{sample_number, sample_out, rotated_sample}
use Rattle.samples.proofs.Chain.{sample_length}
use Rattle.samples.proofs.Checks.{sample_done}
use Rattle.gates.specs.Private.{MuxGood}
use Rattle.gates.specs.Gate.{gated, muxed, muxed_naive, gate_out}
use Rattle.gates.proofs.Chain.{negative-length, switched_to, gated-length}
use Rattle.gates.proofs.Checks.{gate_done}
use Rattle.gates.specs.Refusals.{gate_number}

-- the lengths of a choice that is not refused are right for each call in it
module _ (p : Params) {la lb lc lk ls lo : ℕ} (k : MuxGood p la lb lc lk ls lo) {lr : ℕ} where
  pub choice_sampled : {lx ly : ℕ} → lx ≡ p.n + 1 → ly ≡ p.n + 1 → lr ≡ size p + 1 → sample_number p lx ly ls lr ≡ 0
  choice_sampled x y r = sample_done p _ _ ls lr (record { good = k.good; first = x; second = y; bootstrapping = k.bootstrapping; result = r })

  pub choice_added : {lx ly : ℕ} → lx ≡ size p + 1 → ly ≡ size p + 1 → lr ≡ size p + 1 → linear_number p One lx ly lr ≡ 0
  choice_added x y r = linear_done p One _ _ lr (record { good = k.good; first = x; second = y; result = r })

  pub choice_switched : lr ≡ size p + 1 → switch_number p lr lk lo ≡ 0
  choice_switched r = switch_done p lr lk lo k.good r k.switching k.result

  pub choice_gated : {lx ly : ℕ} → lx ≡ p.n + 1 → ly ≡ p.n + 1 → lr ≡ p.n + 1 → gate_number p lx ly lk ls lr ≡ 0
  choice_gated x y r = gate_done p _ _ lk ls lr (record { good = k.good; first = x; second = y; switching = k.switching; bootstrapping = k.bootstrapping; result = r })

  pub choice_negated : lr ≡ p.n + 1 → linear_number p Zero la la lr ≡ 0
  choice_negated r = linear_done p Zero la la lr (record { good = k.good; first = k.first; second = k.first; result = r })

module _ (p : Params) (a b c ksk bsk o : List ℕ) (k : MuxGood p (length a) (length b) (length c) (length ksk) (length bsk) (length o)) where
  -- two samples, their sum, one switching; the scratch was u0, v0 and s0
  pub mux_made : (u0 v0 s0 : List ℕ) {u v sum out : List ℕ} → length u0 ≡ size p + 1 → length v0 ≡ size p + 1 → length s0 ≡ size p + 1
      → u ≡ sample_out p And a b bsk u0 → v ≡ sample_out p AndNy a c bsk v0 → sum ≡ linear_out p One u v s0 (mux_sum p u v)
      → out ≡ if_done (switch_number p (length sum) (length ksk) (length o)) (switched p ksk sum) o → out ≡ muxed p ksk bsk a b c
  unfolding muxed
  mux_made u0 v0 s0 {u} {v} lu lv ls eu ev es eo =
      let x = rotated_sample p bsk (summed p And a b) in
      let y = rotated_sample p bsk (summed p AndNy a c) in
      let fu : u ≡ x = eu ∙ when_done _ _ _ (choice_sampled p k k.first k.second lu) in
      let fv : v ≡ y = ev ∙ when_done _ _ _ (choice_sampled p k k.first k.third lv) in
      switched_to p k.good ksk bsk o k.switching k.result (mux_sum p x y) (mux_sum_length p x y)
      (es ∙ when_done _ _ _ (choice_added p k (ap length fu ∙ sample_length p bsk _) (ap length fv ∙ sample_length p bsk _) ls) ∙ ap₂ (mux_sum p) fu fv) eo

  -- the same, its sum switched as one call: the scratch was u0 and v0
  pub mux_switched : (u0 v0 : List ℕ) {u v out : List ℕ} → length u0 ≡ size p + 1 → length v0 ≡ size p + 1
      → u ≡ sample_out p And a b bsk u0 → v ≡ sample_out p AndNy a c bsk v0
      → out ≡ if_done (switch_number p (size p + 1) (length ksk) (length o)) (switched p ksk (mux_sum p u v)) o → out ≡ muxed p ksk bsk a b c
  unfolding muxed
  mux_switched u0 v0 {u} {v} lu lv eu ev eo =
      let fu : u ≡ rotated_sample p bsk (summed p And a b) = eu ∙ when_done _ _ _ (choice_sampled p k k.first k.second lu) in
      let fv : v ≡ rotated_sample p bsk (summed p AndNy a c) = ev ∙ when_done _ _ _ (choice_sampled p k k.first k.third lv) in
      eo ∙ when_done _ _ _ (choice_switched p k refl) ∙ ap₂ (λ (x y : List ℕ). switched p ksk (mux_sum p x y)) fu fv

  -- three gates and a negation; the scratch was u0, v0 and w0
  pub naive_made : (u0 v0 w0 : List ℕ) {u v w out : List ℕ} → length u0 ≡ p.n + 1 → length v0 ≡ p.n + 1 → length w0 ≡ p.n + 1
      → u ≡ gate_out p And a b ksk bsk u0 → w ≡ if_done (linear_number p Zero (length a) (length a) (length w0)) (negative (p.n + 1) a) w0
      → v ≡ gate_out p And w c ksk bsk v0 → out ≡ gate_out p Or u v ksk bsk o → out ≡ muxed_naive p ksk bsk a b c
  unfolding muxed_naive
  naive_made u0 v0 w0 {u} {v} {w} lu lv lw eu ew ev eo =
      let fu : u ≡ gated p And ksk bsk a b = eu ∙ when_done _ _ _ (choice_gated p k k.first k.second lu) in
      let fw : w ≡ negative (p.n + 1) a = ew ∙ when_done _ _ _ (choice_negated p k lw) in
      let fv : v ≡ gated p And ksk bsk w c = ev ∙ when_done _ _ _ (choice_gated p k (ap length fw ∙ negative-length (p.n + 1) a) k.third lv) in
      eo ∙ when_done _ _ _ (choice_gated p k (ap length fu ∙ gated-length p And ksk bsk a b) (ap length fv ∙ gated-length p And ksk bsk w c) k.result)
      ∙ ap₂ (gated p Or ksk bsk) fu (fv ∙ ap (λ (x : List ℕ). gated p And ksk bsk x c) fw)
