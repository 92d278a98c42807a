-- One gate of a circuit, by its way: where the operands that it needs carry bits with drifts and all that is brought in is inside, its ciphertext carries the way's meaning
-- with the way's drift; and always its drift is the short way's. By cases on the way.
-- Assumes nothing.
use mathlib.Core.Path.{◌≡◌, refl, ap, ◌∙◌}
use mathlib.Core.Bool.{Bool, true, false, not, cond}
use mathlib.Core.List.{List, [], ◌∷◌, ◌++◌}
use Prim.Native.Nat.{ℕ, ◌+◌, ◌%◌, ◌<◌}
use native.Mathlib.Omega.{arith}
use lib.Dec.{lit<}
use Rattle.ring.specs.Word.{Q, neg}
use Rattle.params.specs.declared.Params.{Params}
use Rattle.params.specs.Ranges.{InRange}
use Rattle.tlwe.specs.Key.{binary}
use Rattle.tlwe.specs.Plain.{bit_word}
use Rattle.gate_sums.specs.declared.Kind.{Kind}
use Rattle.gate_sums.specs.declared.Kind.TheVariants.{And, AndNy}
use Rattle.gate_sums.specs.Kind.{meaning}
use Rattle.gate_sums.specs.Sum.{summed}
use Rattle.gates.specs.Gate.{gated}
use Rattle.ways.specs.declared.Way.{Way}
use Rattle.ways.specs.declared.Way.TheVariants.{Known, Negated, Gate, NegatedGate, Choice}
use Rattle.ways.specs.Ways.{rotations_of, rotation_sum, ran}
use Rattle.ways.specs.Private.{operands_of, way_meaning}
use Rattle.ways.proofs.Made.{ran_known, ran_negated, ran_gate, ran_negated_gate, ran_choice}
use Rattle.drift.specs.PrivateWords.{brought_word, gate_word, mux_word}
use Rattle.drift.specs.PrivateCircuit.{way_word, way_brought_words, all_words}
use Rattle.drift.proofs.Phases.{both, not_drift, constant_drift}
use Rattle.drift.proofs.Meaning.{gate_means, mux_means}
use Rattle.ring.specs.Phase.{phase_of}
use Rattle.drift_size.specs.Size.{inside_word}

-- ---- all of a list are inside

pub all_both : (xs ys : List ℕ) → all_words (xs ++ ys) ≡ true → (all_words xs ≡ true) × (all_words ys ≡ true)
unfolding all_words
all_both [] ys e = (refl, e)
all_both (x ∷ xs) ys e =
    let h = both (inside_word x) (all_words (xs ++ ys)) e in
    let t = all_both xs ys h.1 in
    (ap (λ (b : Bool). cond b (all_words xs) false) h.0 ∙ t.0, t.1)

-- the choice is one of two
picked : (va vb vc : Bool) → cond va vb vc ≡ cond va vb vc
picked true vb vc = refl
picked false vb vc = refl

-- a drift that is 0 or 1, or reckoned modulo 2^32, fits a word
negated_sum : (x d : ℕ) → (x + neg d) % Q ≡ (x + neg d % Q) % Q
unfolding neg Q
negated_sum x d = omega arith

module _ (p : Params) (r : InRange p) (key z : List ℕ) (binary_key : binary key ≡ true) (ksk bsk : List ℕ) where
  -- the ciphertext c carries the bit v with the drift d
  abbrev Carries : List ℕ → Bool → ℕ → Type 0
  Carries c v d = phase_of p.n key c ≡ (bit_word v + d) % Q

  one_inside : (kind : Kind) (a b : List ℕ) (da db : ℕ) → cond (inside_word (brought_word p kind key (summed p kind a b) da db)) true false ≡ true
      → inside_word (brought_word p kind key (summed p kind a b) da db) ≡ true
  one_inside kind a b da db e = (both (inside_word (brought_word p kind key (summed p kind a b) da db)) true e).0

  pub way_means : (way : Way) (a b c : List ℕ) (va vb vc : Bool) (da db dc : ℕ)
      → (0 < operands_of way → Carries a va da) → (1 < operands_of way → Carries b vb db) → (2 < operands_of way → Carries c vc dc)
      → all_words (way_brought_words p key way a b c da db dc) ≡ true
      → Carries (ran p ksk bsk way a b c) (way_meaning way va vb vc) (way_word p key z ksk bsk way a b c da)
  unfolding operands_of way_meaning way_word way_brought_words rotations_of rotation_sum all_words
  way_means (Known bit) a b c va vb vc da db dc ea eb ec i = ap (phase_of p.n key) (ran_known p ksk bsk a b c bit) ∙ constant_drift p key bit
  way_means Negated a b c va vb vc da db dc ea eb ec i =
      ap (phase_of p.n key) (ran_negated p ksk bsk a b c) ∙ not_drift p key a va da (ea (lit< tt)) ∙ negated_sum (bit_word (not va)) da
  way_means (Gate kind) a b c va vb vc da db dc ea eb ec i =
      ap (phase_of p.n key) (ran_gate p ksk bsk a b c kind)
      ∙ gate_means p r key z binary_key ksk bsk kind a b va vb da db (ea (lit< tt)) (eb (lit< tt)) (one_inside kind a b da db i)
  way_means (NegatedGate kind) a b c va vb vc da db dc ea eb ec i =
      ap (phase_of p.n key) (ran_negated_gate p ksk bsk a b c kind)
      ∙ not_drift p key (gated p kind ksk bsk a b) (meaning kind va vb) (gate_word p key z ksk bsk (summed p kind a b))
      (gate_means p r key z binary_key ksk bsk kind a b va vb da db (ea (lit< tt)) (eb (lit< tt)) (one_inside kind a b da db i))
      ∙ negated_sum (bit_word (not (meaning kind va vb))) (gate_word p key z ksk bsk (summed p kind a b))
  way_means Choice a b c va vb vc da db dc ea eb ec i =
      let h = both (inside_word (brought_word p And key (summed p And a b) da db)) (cond (inside_word (brought_word p AndNy key (summed p AndNy a c) da dc)) true false) i in
      ap (phase_of p.n key) (ran_choice p ksk bsk a b c)
      ∙ mux_means p r key z binary_key ksk bsk a b c va vb vc da db dc (ea (lit< tt)) (eb (lit< tt)) (ec (lit< tt)) h.0 (one_inside AndNy a c da dc h.1)
      ∙ ap (λ (v : Bool). (bit_word v + mux_word p key z ksk bsk (summed p And a b) (summed p AndNy a c)) % Q) (picked va vb vc)
