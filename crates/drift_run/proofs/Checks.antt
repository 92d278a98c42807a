-- The refusals taken apart: what each answer of 0 tells, and that good arguments are not refused.
-- Assumes nothing.
use mathlib.Core.Path.{◌≡◌, refl}
use mathlib.Core.Bool.{true}
use mathlib.Core.List.{List, [], ◌∷◌}
use Prim.Native.Nat.{ℕ, ◌+◌, ◌*◌}
use borrow.Author.Tests.{eq-eqb, ne_eqb}
use lib.ListN.{length}
use Rattle.params.specs.declared.Params.{Params}
use Rattle.params.specs.Ranges.{params_number}
use Rattle.std.specs.Prelude.{Ok, Err}
use Rattle.params.specs.declared.refusal.Refusal.{Refusal}
use Rattle.params.specs.Refusal.{answer, given, outcome}
use Rattle.params.proofs.Answers.{given_done}
use Rattle.params.specs.Sizes.{size, switching_words, bootstrapping_words}
use Rattle.refusals.specs.Table.{Check, is, holds}
use Rattle.refusals.proofs.Table.{good, done, facts, none}
use Rattle.tlwe.specs.Key.{binary}
use Rattle.circuit.specs.Form.{inputs, outputs, wires, answer_of}
use Rattle.circuit.specs.Valid.{Valid}
use Rattle.encrypted_run.specs.Refusals.{around}
use Rattle.turns.proofs.Given.{number_refused, refused_alike}
use Rattle.encrypted_run.proofs.Checks.{around_good, around_done}
use Rattle.drift_run.specs.Refusals.{secrets_number, drift_wires_number, lent_number, drift_answer, drift_gate_answer}
use Rattle.drift_run.specs.Private.{Secret, DriftGateGood, DriftRunGood}

-- ---- the keys

-- what holds of the keys that are not refused
pub record SecretsGood (p : Params) (lk ls : ℕ) (key z : List ℕ) : Type 0 where
  pub good : params_number p ≡ 0
  pub secret : Secret p key
  pub switching : lk ≡ switching_words p
  pub bootstrapping : ls ≡ bootstrapping_words p
  pub long : length z ≡ size p
  pub bits : binary z ≡ true

module _ (p : Params) (lk ls : ℕ) (key z : List ℕ) where
  abbrev secrets : List Check
  secrets = is lk (switching_words p) 2 ∷ is ls (bootstrapping_words p) 2 ∷ is (length key) p.n 2 ∷ is (length z) (size p) 2 ∷ holds (binary key) 4 ∷ holds (binary z) 4 ∷ []

  pub secrets_good : secrets_number p lk ls key z ≡ 0 → SecretsGood p lk ls key z
  unfolding secrets_number
  secrets_good e =
      let f = good p secrets refl e in
      record {
        good = f.0;
        secret = record { long = f.1.1.1.0; bits = f.1.1.1.1.1.0 };
        switching = f.1.0;
        bootstrapping = f.1.1.0;
        long = f.1.1.1.1.0;
        bits = f.1.1.1.1.1.1.0;
      }

  secrets_done : SecretsGood p lk ls key z → secrets_number p lk ls key z ≡ 0
  unfolding secrets_number
  secrets_done k = done p secrets (k.good, (k.switching, (k.bootstrapping, (k.secret.long, (k.long, (k.secret.bits, (k.bits, tt)))))))

-- ---- the code's checks, one part after the other

module _ (before : ℕ) (bs : List ℕ) (after : ℕ) {A : Type 0} (w : A) where
  -- what does not depend on the circuit
  pub around_first : {B : Type 0} (v : B) {s : Refusal} → given (answer before) v ≡ Err s → given (around before bs after) w ≡ Err s
  around_first v {s = s} e = let h = number_refused (answer before) v e in rw (ne_eqb before 0 h) (refused_alike (answer before) v w e)

  -- the circuit's own
  pub around_circuit : before ≡ 0 → {s : Refusal} → outcome (answer_of bs) ≡ Err s → given (around before bs after) w ≡ Err s
  around_circuit z e = let h = number_refused (answer_of bs) tt e in rw (eq-eqb before 0 z) (rw (ne_eqb (answer_of bs).number 0 h) (refused_alike (answer_of bs) tt w e))

  -- what does
  pub around_last : before ≡ 0 → (answer_of bs).number ≡ 0 → {s : Refusal} → outcome (answer after) ≡ Err s → given (around before bs after) w ≡ Err s
  around_last z o e = rw (eq-eqb before 0 z) (rw (eq-eqb (answer_of bs).number 0 o) (refused_alike (answer after) tt w e))

  pub around_passed : before ≡ 0 → (answer_of bs).number ≡ 0 → after ≡ 0 → given (around before bs after) w ≡ Ok w
  around_passed z o a = rw (eq-eqb before 0 z) (rw (eq-eqb (answer_of bs).number 0 o) (given_done (answer after) w a))

-- ---- the answers

module _ (p : Params) (lk ls : ℕ) (key z bs : List ℕ) where
  -- the lengths that depend on the circuit: those of one gate, and of a run
  abbrev gate_lengths : ℕ → ℕ → List Check
  gate_lengths lw ld = is lw (wires bs * (p.n + 1)) 2 ∷ is ld (wires bs) 2 ∷ []

  abbrev run_lengths : ℕ → ℕ → ℕ → ℕ → ℕ → List Check
  run_lengths li lp lw lo ld = is li (inputs bs * (p.n + 1)) 2 ∷ is lp (inputs bs) 2 ∷ is lo (outputs bs * (p.n + 1)) 2 ∷ gate_lengths lw ld

  together : (lw ld : ℕ) → secrets_number p lk ls key z ≡ 0 → Valid bs → lw ≡ wires bs * (p.n + 1) → ld ≡ wires bs → DriftGateGood p lk ls key bs lw ld
  together lw ld e v w d =
      let k = secrets_good p lk ls key z e in
      record {
        good = k.good;
        lent = record {
          passing = record { finished = record { secret = k.secret; valid = v; wires_length = w }; drifts_length = d };
          switching = k.switching;
          bootstrapping = k.bootstrapping;
        };
      }

  pub gate_good : (lw ld : ℕ) → (drift_gate_answer p lk ls key z bs lw ld).number ≡ 0 → DriftGateGood p lk ls key bs lw ld
  unfolding drift_gate_answer drift_wires_number
  gate_good lw ld e =
      let s = around_good (secrets_number p lk ls key z) bs _ e in
      let f = facts (gate_lengths lw ld) refl s.2 in
      together lw ld s.0 s.1 f.0 f.1.0

  pub run_good : (li lp lw lo ld : ℕ) → (drift_answer p lk ls key z bs li lp lw lo ld).number ≡ 0 → DriftRunGood p lk ls key bs li lp lw lo ld
  unfolding drift_answer lent_number
  run_good li lp lw lo ld e =
      let s = around_good (secrets_number p lk ls key z) bs _ e in
      let f = facts (run_lengths li lp lw lo ld) refl s.2 in
      let g = together lw ld s.0 s.1 f.1.1.1.0 f.1.1.1.1.0 in
      record { good = g.good; lent = record { gate = g.lent; ins_length = f.0; plain_length = f.1.0; outs_length = f.1.1.0 } }

  -- for callers: good arguments are not refused, where the level-1 key is binary and of its length
  module _ (long : length z ≡ size p) (bits : binary z ≡ true) where
    keys_done : (lw ld : ℕ) → DriftGateGood p lk ls key bs lw ld → secrets_number p lk ls key z ≡ 0
    keys_done lw ld g =
        let t = g.lent in
        secrets_done p lk ls key z
        (record { good = g.good; secret = t.passing.finished.secret; switching = t.switching; bootstrapping = t.bootstrapping; long = long; bits = bits })

    pub gate_done : (lw ld : ℕ) → DriftGateGood p lk ls key bs lw ld → drift_gate_answer p lk ls key z bs lw ld ≡ answer 0
    unfolding drift_gate_answer drift_wires_number
    gate_done lw ld g =
        let t = g.lent.passing in
        around_done (secrets_number p lk ls key z) bs _ (keys_done lw ld g) t.finished.valid
        (none (gate_lengths lw ld) (t.finished.wires_length, (t.drifts_length, tt)))

    pub run_done : (li lp lw lo ld : ℕ) → DriftRunGood p lk ls key bs li lp lw lo ld → drift_answer p lk ls key z bs li lp lw lo ld ≡ answer 0
    unfolding drift_answer lent_number
    run_done li lp lw lo ld g =
        let r = g.lent in
        let t = r.gate.passing in
        around_done (secrets_number p lk ls key z) bs _ (keys_done lw ld (record { good = g.good; lent = r.gate })) t.finished.valid
        (none (run_lengths li lp lw lo ld)
        (r.ins_length, (r.plain_length, (r.outs_length, (t.finished.wires_length, (t.drifts_length, tt))))))
