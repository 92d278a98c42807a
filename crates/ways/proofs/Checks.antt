-- What a run of a way answers and leaves, from the gate that it calls, by cases on the way; and a way on ciphertexts that are there is not refused.
-- Assumes nothing.
use mathlib.Core.Path.{◌≡◌, sym, ap, ◌∙◌}
use mathlib.Core.Bool.{Bool}
use mathlib.Core.List.{List}
use Prim.Native.Nat.{ℕ, ◌+◌, ◌<◌}
use lib.Dec.{lit<}
use lib.ListN.{length}
use Rattle.params.specs.declared.Params.{Params}
use Rattle.params.specs.Refusal.{answer, outcome, Outcome, if_done}
use Rattle.params.specs.Ranges.{params_number}
use Rattle.params.specs.Sizes.{switching_words, bootstrapping_words}
use Rattle.params.proofs.Answers.{when_done, when_refused, kept}
use Rattle.tlwe.specs.declared.Level.TheVariants.{Zero}
use Rattle.tlwe.specs.Linear.{linear_number, negative}
use Rattle.tlwe.proofs.Checks.{linear_done}
use Rattle.gate_sums.specs.declared.Kind.{Kind}
use Rattle.gate_sums.specs.Sum.{constant_of, constant_number}
use Rattle.gates.specs.Refusals.{gate_number, mux_number}
use Rattle.gates.specs.Gate.{gated, muxed, gate_out, mux_out}
use Rattle.gate_sums.proofs.Checks.{constant_done}
use Rattle.gates.proofs.Checks.{gate_done}
use Rattle.named_gates.proofs.Checks.{mux_done}
use Rattle.gates.proofs.Chain.{gated-length}
use Rattle.ways.specs.declared.Way.{Way}
use Rattle.ways.specs.declared.Way.TheVariants.{Known, Negated, Gate, NegatedGate, Choice}
use Rattle.ways.specs.Ways.{ran}
use Rattle.ways.specs.Refusals.{way_number}
use Rattle.ways.specs.Private.{operands_of}
use Rattle.ways.proofs.Made.{ran_known, ran_negated, ran_gate, ran_negated_gate, ran_choice}

-- ---- a gate whose result is negated: x is what the gate left

module _ (p : Params) (kind : Kind) (a b ksk bsk o : List ℕ) {x : List ℕ} (e : x ≡ gate_out p kind a b ksk bsk o) where
  abbrev number : ℕ
  number = gate_number p (length a) (length b) (length ksk) (length bsk) (length o)

  pub negated_made : {out : List ℕ} → number ≡ 0 → out ≡ negative (length x) x → out ≡ if_done number (negative (p.n + 1) (gated p kind ksk bsk a b)) o
  negated_made {out} z f =
      f ∙ ap (λ (l : List ℕ). negative (length l) l) (e ∙ when_done _ _ _ z)
      ∙ ap (λ (m : ℕ). negative m (gated p kind ksk bsk a b)) (gated-length p kind ksk bsk a b)
      ∙ sym (when_done _ _ _ z)

  pub negated_kept : (number ≡ 0 → ⊥) → x ≡ if_done number (negative (p.n + 1) (gated p kind ksk bsk a b)) o
  negated_kept h = e ∙ when_refused _ _ _ h ∙ kept _ _ _ h

-- ---- a way, from the gate that it calls

module _ (p : Params) (ksk bsk a b c o : List ℕ) where
  abbrev refused : Way → ℕ
  refused w = way_number p w (length a) (length b) (length c) (length ksk) (length bsk) (length o)

  -- the answer r and the words out are those of the way w
  abbrev Does : Way → Outcome → List ℕ → Type 0
  Does w r out = (r ≡ outcome (answer (refused w))) × (out ≡ if_done (refused w) (ran p ksk bsk w a b c) o)

  -- the refusals of the gates with a rotation
  abbrev two : ℕ
  two = gate_number p (length a) (length b) (length ksk) (length bsk) (length o)

  abbrev three : ℕ
  three = mux_number p (length a) (length b) (length c) (length ksk) (length bsk) (length o)

  module _ {way : Way} {r : Outcome} {out : List ℕ} where
    as_way : {is : Way} → way ≡ is → Does is r out → Does way r out
    as_way e h = rw e h

    pub does_known : {bit : Bool} → way ≡ Known bit → r ≡ outcome (answer (constant_number p (length o))) → out ≡ if_done (constant_number p (length o)) (constant_of p bit) o → Does way r out
    unfolding way_number
    does_known {bit} e x y = as_way e (x, y ∙ ap (λ (l : List ℕ). if_done (constant_number p (length o)) l o) (sym (ran_known p ksk bsk a b c bit)))

    pub does_negated : way ≡ Negated → r ≡ outcome (answer (linear_number p Zero (length a) (length a) (length o))) → out ≡ if_done (linear_number p Zero (length a) (length a) (length o)) (negative (p.n + 1) a) o
        → Does way r out
    unfolding way_number
    does_negated e x y = as_way e (x, y ∙ ap (λ (l : List ℕ). if_done (linear_number p Zero (length a) (length a) (length o)) l o) (sym (ran_negated p ksk bsk a b c)))

    pub does_gate : {kind : Kind} → way ≡ Gate kind → r ≡ outcome (answer two) → out ≡ gate_out p kind a b ksk bsk o → Does way r out
    unfolding way_number
    does_gate {kind} e x y = as_way e (x, y ∙ ap (λ (l : List ℕ). if_done two l o) (sym (ran_gate p ksk bsk a b c kind)))

    pub does_negated_gate : {kind : Kind} → way ≡ NegatedGate kind → r ≡ outcome (answer two) → out ≡ if_done two (negative (p.n + 1) (gated p kind ksk bsk a b)) o → Does way r out
    unfolding way_number
    does_negated_gate {kind} e x y = as_way e (x, y ∙ ap (λ (l : List ℕ). if_done two l o) (sym (ran_negated_gate p ksk bsk a b c kind)))

    pub does_choice : way ≡ Choice → r ≡ outcome (answer three) → out ≡ mux_out muxed p a b c ksk bsk o → Does way r out
    unfolding way_number
    does_choice e x y = as_way e (x, y ∙ ap (λ (l : List ℕ). if_done three l o) (sym (ran_choice p ksk bsk a b c)))

-- ---- for callers: ciphertexts that are there are not refused

module _ (p : Params) (z : params_number p ≡ 0) (la lb lc lk ls lo : ℕ) (k : lk ≡ switching_words p) (s : ls ≡ bootstrapping_words p) (o : lo ≡ p.n + 1) where
  pub way_done : (way : Way) → (0 < operands_of way → la ≡ p.n + 1) → (1 < operands_of way → lb ≡ p.n + 1) → (2 < operands_of way → lc ≡ p.n + 1) → way_number p way la lb lc lk ls lo ≡ 0
  unfolding way_number operands_of
  way_done (Known bit) a b c = constant_done p lo z o
  way_done Negated a b c = linear_done p Zero la la lo (record { good = z; first = a (lit< tt); second = a (lit< tt); result = o })
  way_done (Gate kind) a b c = gate_done p la lb lk ls lo (record { good = z; first = a (lit< tt); second = b (lit< tt); switching = k; bootstrapping = s; result = o })
  way_done (NegatedGate kind) a b c = gate_done p la lb lk ls lo (record { good = z; first = a (lit< tt); second = b (lit< tt); switching = k; bootstrapping = s; result = o })
  way_done Choice a b c = mux_done p la lb lc lk ls lo (record { good = z; first = a (lit< tt); second = b (lit< tt); third = c (lit< tt); switching = k; bootstrapping = s; result = o })
