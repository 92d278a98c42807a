-- What a drift run leaves, worked out the short way in words, is what the definitions in whole numbers give: a pass over finished wires makes the drifts (drift/Passes), and
-- words suffice (drift/Lists); where all are inside, demand 3 holds (drift/Demand).
-- Assumes nothing.
use mathlib.Core.Path.{◌≡◌, sym, ap, ap₂, ◌∙◌}
use mathlib.Core.Logic.{⊎_elim}
use mathlib.Core.Bool.{Bool, true, false, cond}
use mathlib.Core.List.{List, [], ◌∷◌, ◌++◌}
use Prim.Native.Nat.{ℕ, zero, suc, ◌+◌, ◌*◌, ◌≤◌, ◌<◌}
use native.Mathlib.Nat.{mul-le-mul_right}
use native.Mathlib.Omega.{arith}
use borrow.Author.Tests.{lt-ltb, le-ltb}
use lib.Dec.{ltb}
use lib.IntN.{pos}
use lib.ListN.{length, take, drop, length-append}
use lib.Seq.{length-take-le}
use Rattle.ring.specs.Word.{Q, Q_pos, at}
use Rattle.ring.specs.Centre.{word_of}
use Rattle.params.specs.declared.Params.{Params}
use Rattle.params.specs.Ranges.{InRange}
use Rattle.tlwe.specs.Key.{binary}
use Rattle.tlwe.specs.Decrypt.{bit_of}
use Rattle.circuit.specs.Form.{inputs, gates, outputs, wires}
use Rattle.circuit.specs.Valid.{Valid}
use Rattle.circuit.proofs.Accept.{lt_or_ge}
use Rattle.ways.specs.Ciphers.{cipher_at}
use Rattle.encrypted_run.specs.Run.{gate_cipher, ciphers_of, output_ciphers, stepped, wires_before}
use Rattle.ways.proofs.Ciphers.{wire_within, cipher_front, cipher_next}
use Rattle.encrypted_run.proofs.Wires.{gate_length}
use Rattle.drift.specs.Circuit.{gate_drift_on, drifts_of, all_of, worst_from, all_inside}
use Rattle.drift.specs.PrivateCircuit.{all_words, worst_words, output_words, gate_brought_words}
use Rattle.drift.specs.PrivateShort.{short_gate}
use Rattle.drift.proofs.Passes.{short_gate_lem, short_brought, short_run, short_rotations}
use Rattle.drift.proofs.Lists.{all_reckoned, worst_reckoned, gate_reckoned, gate_brought_reckoned, drifts_words, inside_reckoned}
use Rattle.drift.proofs.Demand.{demand_three}
use Rattle.drift_run.specs.declared.by_way.Drifted.{Drifted}
use Rattle.drift_run.specs.Run.{words_of, signed_of, Decrypts, gate_brought, drift_stepped}
use Rattle.drift_run.specs.Private.{drifted, short_drifts, short_inside, put_short, told_short}
use Rattle.ring.specs.Phase.{phase_of}

-- ---- a whole run

module _ (p : Params) (r : InRange p) (key z : List ℕ) (binary_key : binary key ≡ true) (ksk bsk bs ins plain : List ℕ)
    (v : Valid bs) (li : length ins ≡ inputs bs * (p.n + 1)) where
  abbrev done : List ℕ
  done = ciphers_of p ksk bsk bs ins

  -- the drifts
  pub drifts_are : short_drifts p key bs ins plain done ≡ words_of (drifts_of p key z ksk bsk bs ins plain)
  drifts_are = short_run p r key z binary_key ksk bsk bs ins v li plain (gates bs) (omega arith) ∙ sym (drifts_words p key z binary_key ksk bsk bs ins plain)

  -- whether all are inside
  pub inside_is : short_inside p key bs ins plain done ≡ all_inside p key z ksk bsk bs ins plain
  inside_is =
      ap₂ (λ (x y : List ℕ). cond (all_words x) (all_words (output_words bs y)) false)
      (short_rotations p r key z binary_key ksk bsk bs ins v li plain (gates bs) (omega arith))
      (short_run p r key z binary_key ksk bsk bs ins v li plain (gates bs) (omega arith))
      ∙ sym (inside_reckoned p key z binary_key ksk bsk bs ins plain)

  -- and then demand 3
  pub right_is : {told : Bool} {out : List ℕ} → told ≡ short_inside p key bs ins plain done → out ≡ output_ciphers p bs done
      → told ≡ true → (o : ℕ) → o < outputs bs → Decrypts p key bs plain out o
  right_is {told} {out} et eo h o l =
      ap (λ (x : List ℕ). bit_of (phase_of p.n key (cipher_at p x o))) eo
      ∙ demand_three p r key z binary_key ksk bsk bs ins plain v li (sym inside_is ∙ sym et ∙ h) o l

-- ---- one gate

-- words of a front part
pub front_below : (k : ℕ) (ds : List ℕ) → ((i : ℕ) → at ds i < Q) → (i : ℕ) → at (take k ds) i < Q
front_below zero ds h i = Q_pos
front_below (suc k) [] h i = Q_pos
front_below (suc k) (d ∷ ds) h zero = h 0
front_below (suc k) (d ∷ ds) h (suc i) = front_below k ds (λ j. h (suc j)) i

module _ (p : Params) (r : InRange p) (key z : List ℕ) (binary_key : binary key ≡ true) (ksk bsk bs ws ds : List ℕ) (g : ℕ)
    (v : Valid bs) (lw : length ws ≡ wires bs * (p.n + 1)) (below : (i : ℕ) → at ds i < Q) where
  abbrev front : List ℕ
  front = wires_before p bs g ws

  abbrev ready : List ℕ
  ready = stepped p ksk bsk bs g ws

  abbrev drifts : List ℕ
  drifts = take (inputs bs + g) ds

  module _ (l : g < gates bs) where
    front_length : length front ≡ (inputs bs + g) * (p.n + 1)
    front_length = length-take-le ((inputs bs + g) * (p.n + 1)) ws (let h : inputs bs + g ≤ wires bs = omega arith in let m = mul-le-mul_right (p.n + 1) h in omega (arith, m, lw))

    -- the wires before the gate are kept, and its own is there
    kept : (w : ℕ) → w < inputs bs + g → cipher_at p ready w ≡ cipher_at p front w
    unfolding stepped
    kept w h =
        let row = gate_cipher p ksk bsk bs front g in
        let a : w + 1 ≤ inputs bs + g = omega arith in
        let b = wire_within p w (inputs bs + g) a in
        let e = length-append front row in
        cipher_front p (front ++ row) (drop ((inputs bs + g + 1) * (p.n + 1)) ws) w (omega (arith, b, e, front_length)) ∙ cipher_front p front row w (omega (arith, b, front_length))

    own : cipher_at p ready (inputs bs + g) ≡ gate_cipher p ksk bsk bs front g
    unfolding stepped
    own =
        let row = gate_cipher p ksk bsk bs front g in
        let e = length-append front row in
        let n = gate_length p ksk bsk bs front g in
        cipher_front p (front ++ row) (drop ((inputs bs + g + 1) * (p.n + 1)) ws) (inputs bs + g) (omega (arith, e, n, front_length))
        ∙ cipher_next p front row (inputs bs + g) front_length n

    -- some inputs, which no gate's law looks into
    first_length : length (take (inputs bs * (p.n + 1)) ws) ≡ inputs bs * (p.n + 1)
    first_length = length-take-le (inputs bs * (p.n + 1)) ws (let h : inputs bs ≤ wires bs = omega arith in let m = mul-le-mul_right (p.n + 1) h in omega (arith, m, lw))

    drift_is : short_gate p key bs ready drifts g ≡ word_of (gate_drift_on p key z ksk bsk bs front (signed_of drifts) g)
    drift_is =
        short_gate_lem p r key z binary_key ksk bsk bs (take (inputs bs * (p.n + 1)) ws) v first_length g l front ready kept own drifts
        ∙ sym (gate_reckoned p key z binary_key ksk bsk bs front drifts (front_below (inputs bs + g) ds below) g)

    brought_is : gate_brought_words p key bs ready drifts g ≡ gate_brought_words p key bs front drifts g
    brought_is = short_brought p r key z binary_key ksk bsk bs (take (inputs bs * (p.n + 1)) ws) v first_length g l front ready kept own drifts

  -- what was told
  abbrev told : Drifted
  told = cond (ltb g (gates bs)) (told_short p key bs ready ds g) (drifted 0 [])

  pub told-inside : told.inside ≡ all_of (gate_brought p key bs g ws ds)
  unfolding gate_brought all_of all_words
  told-inside =
      ⊎_elim
      (λ (l : g < gates bs). rw (lt-ltb g (gates bs) l) (ap all_words (brought_is l) ∙ sym (all_reckoned (gate_brought_reckoned p key bs front drifts (front_below (inputs bs + g) ds below) g))))
      (λ (l : gates bs ≤ g). rw (le-ltb g (gates bs) l))
      (lt_or_ge g (gates bs))

  pub told_worst : told.worst ≡ word_of (worst_from (pos 0) (gate_brought p key bs g ws ds))
  unfolding gate_brought worst_from worst_words Q
  told_worst =
      ⊎_elim
      (λ (l : g < gates bs). rw (lt-ltb g (gates bs) l) (ap (worst_words 0) (brought_is l) ∙ sym (worst_reckoned (gate_brought_reckoned p key bs front drifts (front_below (inputs bs + g) ds below) g))))
      (λ (l : gates bs ≤ g). rw (le-ltb g (gates bs) l))
      (lt_or_ge g (gates bs))

  pub drifts_put : cond (ltb g (gates bs)) (put_short p key bs ready ds g) ds ≡ cond (ltb g (gates bs)) (drift_stepped p ksk bsk key z bs g ws ds) ds
  unfolding put_short drift_stepped
  drifts_put =
      ⊎_elim
      (λ (l : g < gates bs). rw (lt-ltb g (gates bs) l) (ap (λ (d : ℕ). drifts ++ (d ∷ drop (inputs bs + g + 1) ds)) (drift_is l)))
      (λ (l : gates bs ≤ g). rw (le-ltb g (gates bs) l))
      (lt_or_ge g (gates bs))
