-- Calls of `drift_gate` for the gates in order make a drift run. Induction on the gates done: no call is refused, so each adds to both slices what the definitions of the run
-- add, the words in front being read as the whole numbers that they came from; and what the calls tell, taken together, is what the run tells.
-- Assumes nothing.
use mathlib.Core.Path.{◌≡◌, refl, sym, ap, ap₂, ◌∙◌}
use mathlib.Core.Bool.{Bool, true, false, cond}
use mathlib.Core.List.{List, [], ◌∷◌, ◌++◌, map, map-append, append-nil}
use Prim.Native.Nat.{ℕ, zero, suc, ◌+◌, ◌*◌, ◌≤◌, ◌<◌}
use native.Mathlib.Nat.{add-zero}
use native.Mathlib.Numerals.{add-one}
use native.Mathlib.Omega.{arith}
use borrow.Author.Tests.{lt-ltb}
use lib.IntN.{ℤ}
use lib.ListN.{length, take, drop, length-append, length-drop, take-append-drop, drop_of_length-le}
use lib.Seq.{length-take-le, take_at, drop_at, drop-drop, append_snoc}
use Rattle.ring.specs.Centre.{centre, word_of}
use Rattle.params.specs.declared.Params.{Params}
use Rattle.params.specs.Refusal.{Answer}
use Rattle.params.specs.Refusal.{answer}
use Rattle.params.specs.Sizes.{size}
use Rattle.params.proofs.Answers.{when_done}
use Rattle.params.proofs.Ranges.{in_range}
use Rattle.tlwe.specs.Key.{binary}
use Rattle.circuit.specs.Form.{inputs, gates, outputs}
use Rattle.encrypted_run.specs.Run.{ciphers_to, ciphers_of, stepped, wires_before}
use Rattle.encrypted_run.proofs.Wires.{fits, inputs_fit, held_length, run_none, run_more, run_end}
use Rattle.drift.specs.Whole.{inside}
use Rattle.drift.specs.Circuit.{gate_drift_on, gate_brought_on, fresh_to, drifts_to, brought_to, drifts_of, output_drifts_to, all_of, all_inside}
use Rattle.drift.proofs.Lists.{drifts_reckoned}
use Rattle.drift.proofs.Circuits.{drifts_length}
use Rattle.drift_run.specs.Refusals.{drift_gate_answer}
use Rattle.drift_run.specs.Private.{DriftGateGood}
use Rattle.drift_run.specs.Run.{words_of, signed_of, drift_run_number, inside_after, drift_wires_after, drifts_after, drifts_before, drift_gate_number, gate_brought, gate_inside, gate_wires_after, drift_stepped, gate_drifts_after}
use Rattle.drift_run.proofs.Checks.{gate_done}

-- ---- the calls

-- What there is between calls: the wires' slice, the drifts' slice, and whether every call so far told inside.
pub record Standing : Type 0 where
  pub ciphers : List ℕ
  pub drifts : List ℕ
  pub told : Bool

-- One call of `drift_gate`, for gate g.
unfoldable pub one_call : Params → List ℕ → List ℕ → List ℕ → List ℕ → List ℕ → ℕ → Standing → Standing
one_call p ksk bsk key z bs g s = record {
  ciphers = gate_wires_after p ksk bsk key z bs g s.ciphers s.drifts;
  drifts = gate_drifts_after p ksk bsk key z bs g s.ciphers s.drifts;
  told = cond s.told (gate_inside p ksk bsk key z bs g s.ciphers s.drifts) false;
}

-- The calls for the gates 0 .. n - 1, the slices holding ws and ds at first.
unfoldable pub called : Params → List ℕ → List ℕ → List ℕ → List ℕ → List ℕ → ℕ → List ℕ → List ℕ → Standing
called p ksk bsk key z bs zero ws ds = record { ciphers = ws; drifts = ds; told = true }
called p ksk bsk key z bs (suc n) ws ds = one_call p ksk bsk key z bs n (called p ksk bsk key z bs n ws ds)

-- ---- all of a list

pub all_joined : (xs ys : List ℤ) → all_of (xs ++ ys) ≡ cond (all_of xs) (all_of ys) false
unfolding all_of
all_joined [] ys = refl
all_joined (x ∷ xs) ys = ap (λ (b : Bool). cond (inside x) b false) (all_joined xs ys) ∙ nested (inside x) (all_of xs) (all_of ys)
  where
    nested : (a b c : Bool) → cond a (cond b c false) false ≡ cond (cond a b false) c false
    nested true b c = refl
    nested false b c = refl

-- ---- what they leave, where the lengths and the keys are right and the inputs' drifts stand in front

module _ (p : Params) (ksk bsk key z bs ws ds plain : List ℕ) (good : DriftGateGood p (length ksk) (length bsk) key bs (length ws) (length ds))
    (long : length z ≡ size p) (bits : binary z ≡ true)
    (fresh : take (inputs bs) ds ≡ words_of (fresh_to p key (take (inputs bs * (p.n + 1)) ws) plain (inputs bs))) where
  -- the inputs' ciphertexts, which stand in front of the wires' slice
  abbrev ins : List ℕ
  ins = take (inputs bs * (p.n + 1)) ws

  -- the run's wires and drifts after n gates
  abbrev cs : ℕ → List ℕ
  cs n = ciphers_to p ksk bsk bs ins n

  abbrev xs : ℕ → List ℤ
  xs n = drifts_to p key z ksk bsk bs ins plain n

  -- the slices as they are then
  abbrev ciphers_then : ℕ → List ℕ
  ciphers_then n = cs n ++ drop ((inputs bs + n) * (p.n + 1)) ws

  abbrev drifts_then : ℕ → List ℕ
  drifts_then n = words_of (xs n) ++ drop (inputs bs + n) ds

  -- ---- lengths

  within : inputs bs * (p.n + 1) ≤ length ws
  within = rw good.lent.passing.finished.wires_length (inputs_fit p bs)

  drifts_fill : (n : ℕ) → length (words_of (xs n)) ≡ inputs bs + n
  drifts_fill n =
      let f = good.lent.passing.finished in
      ap length (drifts_reckoned p key z f.secret.bits ksk bsk bs ins plain n).words_are
      ∙ drifts_length p (in_range p good.good) key z f.secret.bits ksk bsk bs ins plain f.valid (length-take-le (inputs bs * (p.n + 1)) ws within) n

  ciphers_long : (n : ℕ) → n ≤ gates bs → length (ciphers_then n) ≡ length ws
  ciphers_long n h =
      let e = length-append (cs n) (drop ((inputs bs + n) * (p.n + 1)) ws) in
      let l = held_length p ksk bsk bs ws within n in
      let d = length-drop ((inputs bs + n) * (p.n + 1)) ws in
      let f = fits p bs n h in
      let w = good.lent.passing.finished.wires_length in
      omega (arith, e, l, d, f, w)

  drifts_long : (n : ℕ) → n ≤ gates bs → length (drifts_then n) ≡ length ds
  drifts_long n h =
      let e = length-append (words_of (xs n)) (drop (inputs bs + n) ds) in
      let l = drifts_fill n in
      let d = length-drop (inputs bs + n) ds in
      let f = good.lent.passing.drifts_length in
      omega (arith, e, l, d, f, h)

  -- so no call is refused
  then_done : (n : ℕ) → n ≤ gates bs → drift_gate_answer p (length ksk) (length bsk) key z bs (length (ciphers_then n)) (length (drifts_then n)) ≡ answer 0
  then_done n h = rw (ciphers_long n h, drifts_long n h) (gate_done p (length ksk) (length bsk) key z bs long bits (length ws) (length ds) good)

  number_done : (n : ℕ) → n ≤ gates bs → drift_gate_number p ksk bsk key z bs (ciphers_then n) (drifts_then n) ≡ 0
  number_done n h = ap (λ (a : Answer). a.number) (then_done n h)

  -- ---- what gate n reads

  wires_read : (n : ℕ) → wires_before p bs n (ciphers_then n) ≡ cs n
  wires_read n = take_at (cs n) (drop ((inputs bs + n) * (p.n + 1)) ws) ((inputs bs + n) * (p.n + 1)) (held_length p ksk bsk bs ws within n)

  words_read : (n : ℕ) → take (inputs bs + n) (drifts_then n) ≡ words_of (xs n)
  words_read n = take_at (words_of (xs n)) (drop (inputs bs + n) ds) (inputs bs + n) (drifts_fill n)

  -- the words read as signed are the drifts again
  drifts_back : (n : ℕ) → signed_of (words_of (xs n)) ≡ xs n
  drifts_back n = let r = drifts_reckoned p key z good.lent.passing.finished.secret.bits ksk bsk bs ins plain n in ap (λ (l : List ℕ). map centre l) r.words_are ∙ sym r.drifts_are

  drifts_read : (n : ℕ) → drifts_before bs n (drifts_then n) ≡ xs n
  drifts_read n = ap (λ (l : List ℕ). map centre l) (words_read n) ∙ drifts_back n

  brought_read : (n : ℕ) → n < gates bs → gate_brought p key bs n (ciphers_then n) (drifts_then n) ≡ gate_brought_on p key bs (cs n) (xs n) n
  unfolding gate_brought
  brought_read n l =
      ap (λ (b : Bool). cond b (gate_brought_on p key bs (wires_before p bs n (ciphers_then n)) (drifts_before bs n (drifts_then n)) n) []) (lt-ltb n (gates bs) l)
      ∙ ap₂ (λ (c : List ℕ) (d : List ℤ). gate_brought_on p key bs c d n) (wires_read n) (drifts_read n)

  -- ---- what it leaves and tells

  module _ (n : ℕ) (l : n < gates bs) where
    so : n ≤ gates bs
    so = omega (arith, l)

    ciphers_next : gate_wires_after p ksk bsk key z bs n (ciphers_then n) (drifts_then n) ≡ ciphers_then (suc n)
    unfolding gate_wires_after
    ciphers_next =
        when_done _ _ _ (number_done n so)
        ∙ ap (λ (b : Bool). cond b (stepped p ksk bsk bs n (ciphers_then n)) (ciphers_then n)) (lt-ltb n (gates bs) l)
        ∙ run_more p ksk bsk bs ws within n refl
        ∙ ap (λ (m : ℕ). cs m ++ drop ((inputs bs + m) * (p.n + 1)) ws) (add-one n)

    behind : drop (inputs bs + n + 1) (drifts_then n) ≡ drop (inputs bs + suc n) ds
    behind =
        let own = inputs bs + n in
        sym (drop-drop 1 own (drifts_then n)) ∙ ap (drop 1) (drop_at (words_of (xs n)) (drop own ds) own (drifts_fill n)) ∙ drop-drop 1 own ds
        ∙ ap (λ (m : ℕ). drop m ds) (let q : own + 1 ≡ inputs bs + suc n = omega arith in q)

    drift_put : drift_stepped p ksk bsk key z bs n (ciphers_then n) (drifts_then n) ≡ drifts_then (suc n)
    unfolding drift_stepped drifts_to
    drift_put =
        let d = gate_drift_on p key z ksk bsk bs (cs n) (xs n) n in
        let rest = drop (inputs bs + suc n) ds in
        ap₂ (λ (c : List ℕ) (y : List ℤ). take (inputs bs + n) (drifts_then n) ++ (word_of (gate_drift_on p key z ksk bsk bs c y n) ∷ drop (inputs bs + n + 1) (drifts_then n))) (wires_read n) (drifts_read n)
        ∙ ap₂ (λ (f r : List ℕ). f ++ (word_of d ∷ r)) (words_read n) behind
        ∙ sym (append_snoc (words_of (xs n)) (word_of d) rest)
        ∙ ap (λ (f : List ℕ). f ++ rest) (sym (map-append word_of (xs n) (d ∷ [])))

    drifts_next : gate_drifts_after p ksk bsk key z bs n (ciphers_then n) (drifts_then n) ≡ drifts_then (suc n)
    unfolding gate_drifts_after
    drifts_next =
        when_done _ _ _ (number_done n so)
        ∙ ap (λ (b : Bool). cond b (drift_stepped p ksk bsk key z bs n (ciphers_then n) (drifts_then n)) (drifts_then n)) (lt-ltb n (gates bs) l)
        ∙ drift_put

    told_next : cond (all_of (brought_to p key z ksk bsk bs ins plain n)) (gate_inside p ksk bsk key z bs n (ciphers_then n) (drifts_then n)) false
        ≡ all_of (brought_to p key z ksk bsk bs ins plain (suc n))
    unfolding gate_inside brought_to
    told_next =
        ap (λ (b : Bool). cond (all_of (brought_to p key z ksk bsk bs ins plain n)) b false) (when_done _ _ _ (number_done n so) ∙ ap all_of (brought_read n l))
        ∙ sym (all_joined (brought_to p key z ksk bsk bs ins plain n) (gate_brought_on p key bs (cs n) (xs n) n))

  -- ---- n calls

  -- the definitions' slices, and whether all that was brought in is inside
  abbrev then : ℕ → Standing
  then n = record { ciphers = ciphers_then n; drifts = drifts_then n; told = all_of (brought_to p key z ksk bsk bs ins plain n) }

  drifts_none : ds ≡ drifts_then 0
  unfolding drifts_to
  drifts_none = sym (take-append-drop (inputs bs) ds) ∙ ap₂ (λ (f : List ℕ) (m : ℕ). f ++ drop m ds) fresh (sym (add-zero (inputs bs)))

  told_none : true ≡ all_of (brought_to p key z ksk bsk bs ins plain 0)
  unfolding brought_to all_of
  told_none = refl

  pub called_are : (n : ℕ) → n ≤ gates bs → called p ksk bsk key z bs n ws ds ≡ then n
  unfolding called one_call
  called_are zero h = let c = run_none p ksk bsk bs ws within in let d = drifts_none in let t = told_none in λ i. record { ciphers = c i; drifts = d i; told = t i }
  called_are (suc n) h =
      let l : n < gates bs = omega (arith, h) in
      let c = ciphers_next n l in
      let d = drifts_next n l in
      let t = told_next n l in
      ap (one_call p ksk bsk key z bs n) (called_are n (omega (arith, h))) ∙ (λ i. record { ciphers = c i; drifts = d i; told = t i })

  -- no call is refused
  pub none_refused : (n : ℕ) → n ≤ gates bs
      → drift_gate_answer p (length ksk) (length bsk) key z bs (length (called p ksk bsk key z bs n ws ds).ciphers) (length (called p ksk bsk key z bs n ws ds).drifts) ≡ answer 0
  none_refused n h =
      ap (λ (s : Standing). drift_gate_answer p (length ksk) (length bsk) key z bs (length s.ciphers) (length s.drifts)) (called_are n h) ∙ then_done n h

  -- what is brought into the gates' rotations, one call after another, is what is brought into the run's
  pub brought_called : (g : ℕ) → g < gates bs
      → all_of (brought_to p key z ksk bsk bs ins plain (g + 1))
      ≡ cond (all_of (brought_to p key z ksk bsk bs ins plain g))
      (all_of (gate_brought p key bs g (called p ksk bsk key z bs g ws ds).ciphers (called p ksk bsk key z bs g ws ds).drifts)) false
  unfolding brought_to
  brought_called g l =
      ap (λ (m : ℕ). all_of (brought_to p key z ksk bsk bs ins plain m)) (add-one g)
      ∙ all_joined (brought_to p key z ksk bsk bs ins plain g) (gate_brought_on p key bs (cs g) (xs g) g)
      ∙ ap (λ (y : List ℤ). cond (all_of (brought_to p key z ksk bsk bs ins plain g)) (all_of y) false)
      (sym (ap (λ (s : Standing). gate_brought p key bs g s.ciphers s.drifts) (called_are g (omega (arith, l))) ∙ brought_read g l))

  -- ---- all of them

  abbrev ended : Standing
  ended = called p ksk bsk key z bs (gates bs) ws ds

  -- all of them make the run's wires and drifts
  pub steps_run : (ended.ciphers ≡ ciphers_of p ksk bsk bs ins) × (ended.drifts ≡ words_of (drifts_of p key z ksk bsk bs ins plain))
  steps_run =
      let e = called_are (gates bs) (omega arith) in
      let all : length ds ≤ inputs bs + gates bs = (let d = good.lent.passing.drifts_length in omega (arith, d)) in (
        run_end p ksk bsk bs ws within (gates bs) (omega arith) (omega arith) good.lent.passing.finished.wires_length (ap (λ (s : Standing). s.ciphers) e),
        ap (λ (s : Standing). s.drifts) e ∙ ap (λ (x : List ℕ). words_of (xs (gates bs)) ++ x) (drop_of_length-le ds all) ∙ append-nil (words_of (xs (gates bs))),
      )

  -- every call told inside, and the outputs' drifts that then stand in the slice are inside: demand 3's condition
  pub inside_run : cond ended.told (all_of (output_drifts_to bs (signed_of ended.drifts) (outputs bs))) false ≡ all_inside p key z ksk bsk bs ins plain
  unfolding all_inside
  inside_run =
      ap₂ (λ (b : Bool) (y : List ℤ). cond b (all_of (output_drifts_to bs y (outputs bs))) false)
      (ap (λ (s : Standing). s.told) (called_are (gates bs) (omega arith)))
      (ap (λ (l : List ℕ). map centre l) steps_run.1 ∙ drifts_back (gates bs))

  -- so they leave and tell what a drift run of the same inputs and plain bits leaves and tells, whatever its slices held
  pub same_as_run : (held out drifts : List ℕ) → drift_run_number p ksk bsk key z bs ins plain held out drifts ≡ 0
      → (ended.ciphers ≡ drift_wires_after p ksk bsk key z bs ins plain held out drifts) × (ended.drifts ≡ drifts_after p ksk bsk key z bs ins plain held out drifts)
      × (cond ended.told (all_of (output_drifts_to bs (signed_of ended.drifts) (outputs bs))) false ≡ inside_after p ksk bsk key z bs ins plain held out drifts)
  unfolding drift_wires_after drifts_after inside_after
  same_as_run held out drifts e = (steps_run.0 ∙ sym (when_done _ _ _ e), steps_run.1 ∙ sym (when_done _ _ _ e), inside_run ∙ sym (when_done _ _ _ e))
