-- What is told of a gate, made of its parts.
-- Assumes nothing.
use mathlib.Core.Path.{◌≡◌, refl, ap, ap₂, ◌∙◌}
use mathlib.Core.Bool.{Bool, true, false, cond, ◌&&◌}
use mathlib.Core.List.{List, [], ◌∷◌}
use Prim.Native.Nat.{ℕ, ◌+◌, ◌%◌}
use native.Mathlib.Nat.{mod-add-mod}
use Rattle.std.specs.List.{list_all, fold}
use Rattle.ring.specs.Word.{Q, neg}
use Rattle.ring.specs.Phase.{phase_of}
use Rattle.ring.proofs.Words.{neg-mod}
use Rattle.params.specs.declared.Params.{Params}
use Rattle.tlwe.specs.Plain.{bit_word}
use Rattle.gate_sums.specs.declared.Kind.{Kind}
use Rattle.gate_sums.specs.Sum.{summed}
use Rattle.ways.specs.declared.Way.TheVariants.{Gate, NegatedGate}
use Rattle.drift.specs.PrivateCircuit.{all_words, worst_words}
use Rattle.drift.specs.PrivateShort.{side_of, carried_word, short_word}
use Rattle.drift_size.specs.Size.{inside_word, worse_word}

-- both of two
pub both_are : (a b : Bool) → (a && b) ≡ cond a b false
both_are true b = refl
both_are false b = refl

-- `all` and `fold` over the drifts that are brought in
pub all_are : (ds : List ℕ) → list_all inside_word ds ≡ all_words ds
unfolding all_words
all_are [] = refl
all_are (d ∷ ds) = both_are (inside_word d) (list_all inside_word ds) ∙ ap (λ (b : Bool). cond (inside_word d) b false) (all_are ds)

pub worst_is : (w : ℕ) (ds : List ℕ) → fold worse_word w ds ≡ worst_words w ds
unfolding worst_words
worst_is w [] = refl
worst_is w (d ∷ ds) = worst_is (worse_word w d) ds

-- the drift of a two-input gate, whose result is negated or not
pub one_made : (p : Params) (kind : Kind) (negated : Bool) (key a b own : List ℕ) (da : ℕ) {phase carried drift : ℕ} {side : Bool}
    → phase ≡ phase_of p.n key own → side ≡ side_of p key (summed p kind a b) → carried ≡ cond negated (neg (bit_word side) % Q) (bit_word side) → drift ≡ (phase + neg carried) % Q
    → drift ≡ short_word p key (cond negated (NegatedGate kind) (Gate kind)) a b b da own
unfolding short_word carried_word
one_made p kind true key a b own da ep es ec ed =
    ed ∙ ap₂ (λ (x y : ℕ). (x + neg y) % Q) ep (ec ∙ ap (λ s. neg (bit_word s) % Q) es) ∙ ap (λ (n : ℕ). (phase_of p.n key own + n) % Q) (neg-mod (neg (bit_word (side_of p key (summed p kind a b)))))
one_made p kind false key a b own da ep es ec ed = ed ∙ ap₂ (λ (x y : ℕ). (x + neg y) % Q) ep (ec ∙ ap bit_word es)

-- what `mux` carries, added up modulo 2^32
pub carried_sum : (f : ℕ) {x y u v s t : ℕ} (c : ℕ) → x ≡ u → y ≡ v → s ≡ (x + y) % Q → t ≡ (s + c) % Q → (f + neg t) % Q ≡ (f + neg (u + v + c)) % Q
carried_sum f {x} {y} {u} {v} {s} {t} c ex ey es et =
    ap (λ (n : ℕ). (f + n) % Q)
    (ap neg (et ∙ ap (λ (n : ℕ). (n + c) % Q) (es ∙ ap₂ (λ (m n : ℕ). (m + n) % Q) ex ey) ∙ mod-add-mod (u + v) Q c) ∙ neg-mod (u + v + c))
