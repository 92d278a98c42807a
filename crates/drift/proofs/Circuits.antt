-- Every wire of a run carries its plain bit with its drift, where all that is brought into the rotations is inside. By induction on the gates: a gate's operands stand
-- before it, and what stands there is kept.
-- Assumes nothing.
use mathlib.Core.Path.{◌≡◌, refl, sym, ap, ap₂, ◌∙◌}
use mathlib.Core.Logic.{⊎_elim}
use mathlib.Core.Bool.{Bool, true, false}
use mathlib.Core.List.{List, [], ◌∷◌}
use Prim.Native.Nat.{ℕ, zero, suc, ◌+◌, ◌*◌, ◌%◌, ◌≤◌, ◌<◌}
use native.Mathlib.Nat.{add-zero, mod-lt}
use native.Mathlib.Omega.{arith}
use lib.Dec.{lit<}
use lib.ListN.{length, length-append, get_or-append}
use lib.Seq.{get_or_at}
use Rattle.ring.specs.Word.{Q, Q_pos, at, neg}
use Rattle.ring.specs.Phase.{phase_of}
use Rattle.ring.proofs.Tab.{at-tab, length-tab}
use Rattle.params.specs.declared.Params.{Params}
use Rattle.params.specs.Ranges.{InRange}
use Rattle.tlwe.specs.Key.{binary}
use Rattle.tlwe.specs.Plain.{bit_word}
use Rattle.kinds.specs.Kinds.{kind_of, bit_meaning}
use Rattle.circuit.specs.Form.{inputs, gates, kind_at, operand_at}
use Rattle.circuit.specs.Plain.{gate_bit, wires_to, input_bits}
use Rattle.circuit.specs.Valid.{Valid}
use Rattle.circuit.proofs.Accept.{lt_or_ge}
use Rattle.circuit.proofs.Wires.{length_wires}
use Rattle.ways.specs.Ways.{way_of}
use Rattle.ways.specs.Private.{operands_of}
use Rattle.ways.specs.Ciphers.{cipher_at}
use Rattle.encrypted_run.specs.Run.{gate_cipher, ciphers_to}
use Rattle.ways.proofs.Ciphers.{wire_within, cipher_front, cipher_next}
use Rattle.ways.proofs.Needs.{ways_need}
use Rattle.ways.proofs.Meanings.{ways_mean}
use Rattle.encrypted_run.proofs.Wires.{gate_length}
use Rattle.encrypted_run.proofs.Laws.{ciphers_fill}
use Rattle.drift.specs.PrivateWords.{fresh_word}
use Rattle.drift.specs.PrivateCircuit.{gate_word_on, gate_brought_words, fresh_words, drift_words_to, brought_words_to, all_words}
use Rattle.drift.proofs.Ways.{all_both, way_means}
use Rattle.ring.specs.Bit.{truth, bit_number}

-- a bit handed back is that bit
pub bit_truth : (b : Bool) → truth (bit_number b) ≡ b
bit_truth true = refl
bit_truth false = refl

-- a fresh ciphertext carries its bit with its drift
fresh_sum : (f b : ℕ) → f < Q → f ≡ (b + (f + neg b) % Q) % Q
unfolding neg Q
fresh_sum f b l = omega arith

pub fresh_carries : (p : Params) (key c : List ℕ) (v : Bool) → phase_of p.n key c ≡ (bit_word v + fresh_word p key c v) % Q
unfolding fresh_word phase_of
fresh_carries p key c v = fresh_sum (phase_of p.n key c) (bit_word v) (mod-lt _ Q_pos)

module _ (p : Params) (r : InRange p) (key z : List ℕ) (binary_key : binary key ≡ true) (ksk bsk bs ins plain : List ℕ)
    (v : Valid bs) (li : length ins ≡ inputs bs * (p.n + 1)) where
  abbrev cs : ℕ → List ℕ
  cs g = ciphers_to p ksk bsk bs ins g

  abbrev ds : ℕ → List ℕ
  ds g = drift_words_to p key z ksk bsk bs ins plain g

  abbrev vs : ℕ → List ℕ
  vs g = wires_to bs (input_bits bs plain) g

  pub drifts_length : (g : ℕ) → length (ds g) ≡ inputs bs + g
  unfolding drift_words_to fresh_words
  drifts_length zero = length-tab (inputs bs) _ ∙ sym (add-zero (inputs bs))
  drifts_length (suc g) =
      let e = length-append (ds g) (gate_word_on p key z ksk bsk bs (cs g) (ds g) g ∷ []) in
      let i = drifts_length g in
      omega (arith, e, i)

  bits_length : (g : ℕ) → length (vs g) ≡ inputs bs + g
  bits_length g = length_wires bs (input_bits bs plain) g ∙ ap (λ (k : ℕ). k + g) (length-tab (inputs bs) (λ i. bit_number (truth (at plain i))))

  -- wire w, after g gates, carries its bit with its drift
  abbrev Holds : ℕ → ℕ → Type 0
  Holds g w = phase_of p.n key (cipher_at p (cs g) w) ≡ (bit_word (truth (at (vs g) w)) + at (ds g) w) % Q

  at_first : (w : ℕ) → w < inputs bs + 0 → Holds 0 w
  unfolding ciphers_to wires_to drift_words_to fresh_words
  at_first w h =
      let l : w < inputs bs = omega arith in
      fresh_carries p key (cipher_at p ins w) (truth (at plain w))
      ∙ ap₂ (λ (b : Bool) (d : ℕ). (bit_word b + d) % Q)
      (sym (bit_truth (truth (at plain w))) ∙ ap truth (sym (at-tab (inputs bs) (λ i. bit_number (truth (at plain i))) w l)))
      (sym (at-tab (inputs bs) (λ i. fresh_word p key (cipher_at p ins i) (truth (at plain i))) w l))

  module _ (g : ℕ) (l : g < gates bs) where
    -- what stands before gate g is kept by it
    earlier : (w : ℕ) → w < inputs bs + g → Holds g w → Holds (suc g) w
    unfolding ciphers_to wires_to drift_words_to
    earlier w h e =
        let a : w + 1 ≤ inputs bs + g = omega arith in
        let b = wire_within p w (inputs bs + g) a in
        ap (phase_of p.n key) (cipher_front p (cs g) (gate_cipher p ksk bsk bs (cs g) g) w (omega (arith, b, ciphers_fill p ksk bsk bs ins li g)))
        ∙ e
        ∙ ap₂ (λ (x y : ℕ). (bit_word (truth x) + y) % Q)
        (sym (get_or-append (vs g) (gate_bit bs (vs g) g ∷ []) 0 w (omega (arith, bits_length g))))
        (sym (get_or-append (ds g) (gate_word_on p key z ksk bsk bs (cs g) (ds g) g ∷ []) 0 w (omega (arith, drifts_length g))))

    module _ (before : (w : ℕ) → w < inputs bs + g → Holds g w) (i : all_words (gate_brought_words p key bs (cs g) (ds g) g) ≡ true) where
      needed : (x : ℕ) → x < 3 → x < operands_of (way_of (kind_at bs g)) → Holds g (operand_at bs g x)
      needed x b h = before (operand_at bs g x) ((v.every_gate g l).needed x b (rw (ways_need (kind_at bs g) (v.every_gate g l).kind_to) at h))

      means : phase_of p.n key (gate_cipher p ksk bsk bs (cs g) g) ≡ (bit_word (truth (gate_bit bs (vs g) g)) + gate_word_on p key z ksk bsk bs (cs g) (ds g) g) % Q
      unfolding gate_cipher gate_word_on gate_brought_words bit_meaning
      means =
          let va = truth (at (vs g) (operand_at bs g 0)) in
          let vb = truth (at (vs g) (operand_at bs g 1)) in
          let vc = truth (at (vs g) (operand_at bs g 2)) in
          way_means p r key z binary_key ksk bsk (way_of (kind_at bs g))
          (cipher_at p (cs g) (operand_at bs g 0)) (cipher_at p (cs g) (operand_at bs g 1)) (cipher_at p (cs g) (operand_at bs g 2)) va vb vc
          (at (ds g) (operand_at bs g 0)) (at (ds g) (operand_at bs g 1)) (at (ds g) (operand_at bs g 2))
          (needed 0 (lit< tt)) (needed 1 (lit< tt)) (needed 2 (lit< tt)) i
          ∙ ap (λ (b : Bool). (bit_word b + gate_word_on p key z ksk bsk bs (cs g) (ds g) g) % Q)
          (ways_mean (kind_at bs g) va vb vc (v.every_gate g l).kind_to ∙ sym (bit_truth ((kind_of (kind_at bs g)).meaning va vb vc)))

      own : Holds (suc g) (inputs bs + g)
      unfolding ciphers_to wires_to drift_words_to
      own =
          ap (phase_of p.n key) (cipher_next p (cs g) (gate_cipher p ksk bsk bs (cs g) g) (inputs bs + g) (ciphers_fill p ksk bsk bs ins li g) (gate_length p ksk bsk bs (cs g) g))
          ∙ means
          ∙ ap₂ (λ (x y : ℕ). (bit_word (truth x) + y) % Q)
          (sym (get_or_at (vs g) (gate_bit bs (vs g) g) [] 0 (inputs bs + g) (bits_length g)))
          (sym (get_or_at (ds g) (gate_word_on p key z ksk bsk bs (cs g) (ds g) g) [] 0 (inputs bs + g) (drifts_length g)))

  pub wires_mean : (g : ℕ) → g ≤ gates bs → all_words (brought_words_to p key z ksk bsk bs ins plain g) ≡ true → (w : ℕ) → w < inputs bs + g → Holds g w
  unfolding brought_words_to
  wires_mean zero a i w h = at_first w h
  wires_mean (suc g) a i w h =
      let l : g < gates bs = omega (arith, a) in
      let parts = all_both (brought_words_to p key z ksk bsk bs ins plain g) (gate_brought_words p key bs (cs g) (ds g) g) i in
      let before = wires_mean g (omega (arith, a)) parts.0 in
      ⊎_elim
      (λ (b : w < inputs bs + g). earlier g l w b (before w b))
      (λ (b : inputs bs + g ≤ w). let e : inputs bs + g ≡ w = omega (arith, b, h) in rw e at (own g l before parts.1))
      (lt_or_ge w (inputs bs + g))
