-- A pass over finished wires makes the drifts: gate g's drift and what is brought into it, read off the finished wires by the short way, are those that the run defines from
-- the wires before it. An operand stands before its gate, and what stands there is kept; then by induction on the gates.
-- Assumes nothing.
use mathlib.Core.Path.{◌≡◌, refl, sym, ap, ap₂, ◌∙◌}
use mathlib.Core.Logic.{⊎_elim}
use mathlib.Core.Bool.{true}
use mathlib.Core.List.{List, [], ◌∷◌, ◌++◌}
use Prim.Native.Nat.{ℕ, zero, suc, ◌+◌, ◌*◌, ◌≤◌, ◌<◌}
use native.Mathlib.Nat.{eq-zero-or-pos}
use native.Mathlib.Omega.{arith}
use lib.Dec.{lit<}
use lib.ListN.{length}
use Rattle.ring.specs.Word.{at}
use Rattle.params.specs.declared.Params.{Params}
use Rattle.params.specs.Ranges.{InRange}
use Rattle.tlwe.specs.Key.{binary}
use Rattle.circuit.specs.Form.{inputs, gates, kind_at, operand_at}
use Rattle.circuit.specs.Valid.{Valid}
use Rattle.ways.specs.Ways.{way_of, rotations_of}
use Rattle.ways.specs.Ciphers.{cipher_at}
use Rattle.encrypted_run.specs.Run.{gate_cipher, ciphers_to, ciphers_of}
use Rattle.ways.proofs.Needs.{known_way}
use Rattle.encrypted_run.proofs.Laws.{operand_before, constant, operand_wire, gate_wire}
use Rattle.drift.specs.PrivateCircuit.{way_word, way_brought_words, gate_word_on, gate_brought_words, fresh_words, drift_words_to, brought_words_to}
use Rattle.drift.specs.PrivateShort.{short_word, short_gate, short_to, short_brought_to}
use Rattle.drift.proofs.Short.{short_is}

module _ (p : Params) (r : InRange p) (key z : List ℕ) (binary_key : binary key ≡ true) (ksk bsk bs ins : List ℕ)
    (v : Valid bs) (li : length ins ≡ inputs bs * (p.n + 1)) where
  module _ (g : ℕ) (l : g < gates bs) (front done : List ℕ)
      (same : (w : ℕ) → w < inputs bs + g → cipher_at p done w ≡ cipher_at p front w)
      (own : cipher_at p done (inputs bs + g) ≡ gate_cipher p ksk bsk bs front g) (ds : List ℕ) where
    operand_same : (x : ℕ) → x < 3 → 0 < inputs bs + g → cipher_at p done (operand_at bs g x) ≡ cipher_at p front (operand_at bs g x)
    operand_same x b h = same (operand_at bs g x) (operand_before p ksk bsk bs ins li v g l x b h)

    -- gate g's drift
    pub short_gate_lem : short_gate p key bs done ds g ≡ gate_word_on p key z ksk bsk bs front ds g
    unfolding short_gate gate_word_on gate_cipher short_word way_word
    short_gate_lem =
        ⊎_elim
        (λ (e : inputs bs + g ≡ 0). rw (known_way (kind_at bs g) (constant p ksk bsk bs ins li v g l e)))
        (λ (h : 0 < inputs bs + g).
        rw (operand_same 0 (lit< tt) h, operand_same 1 (lit< tt) h, operand_same 2 (lit< tt) h)
        (short_is p r key z binary_key ksk bsk (way_of (kind_at bs g)) (cipher_at p front (operand_at bs g 0)) (cipher_at p front (operand_at bs g 1)) (cipher_at p front (operand_at bs g 2)) (at ds (operand_at bs g 0)) own))
        (eq-zero-or-pos (inputs bs + g))

    -- what is brought into it
    pub short_brought : gate_brought_words p key bs done ds g ≡ gate_brought_words p key bs front ds g
    unfolding gate_brought_words way_brought_words rotations_of
    short_brought =
        ⊎_elim
        (λ (e : inputs bs + g ≡ 0). rw (known_way (kind_at bs g) (constant p ksk bsk bs ins li v g l e)))
        (λ (h : 0 < inputs bs + g). rw (operand_same 0 (lit< tt) h, operand_same 1 (lit< tt) h, operand_same 2 (lit< tt) h))
        (eq-zero-or-pos (inputs bs + g))

  -- ---- the whole run

  module _ (plain : List ℕ) where
    abbrev done : List ℕ
    done = ciphers_of p ksk bsk bs ins

    abbrev start : List ℕ
    start = fresh_words p key ins plain (inputs bs)

    pub short_run : (g : ℕ) → g ≤ gates bs → short_to p key bs done start g ≡ drift_words_to p key z ksk bsk bs ins plain g
    unfolding short_to drift_words_to
    short_run zero a = refl
    short_run (suc g) a =
        let l : g < gates bs = omega (arith, a) in
        let e = short_run g (omega (arith, a)) in
        ap (λ (ds : List ℕ). ds ++ (short_gate p key bs done ds g ∷ [])) e
        ∙ ap (λ (d : ℕ). drift_words_to p key z ksk bsk bs ins plain g ++ (d ∷ []))
        (short_gate_lem g l (ciphers_to p ksk bsk bs ins g) done (λ w h. sym (operand_wire p ksk bsk bs ins li g w l h)) (gate_wire p ksk bsk bs ins li g l) (drift_words_to p key z ksk bsk bs ins plain g))

    pub short_rotations : (g : ℕ) → g ≤ gates bs → short_brought_to p key bs done start g ≡ brought_words_to p key z ksk bsk bs ins plain g
    unfolding short_brought_to brought_words_to
    short_rotations zero a = refl
    short_rotations (suc g) a =
        let l : g < gates bs = omega (arith, a) in
        ap₂ (λ (xs ds : List ℕ). xs ++ gate_brought_words p key bs done ds g) (short_rotations g (omega (arith, a))) (short_run g (omega (arith, a)))
        ∙ ap (λ (xs : List ℕ). brought_words_to p key z ksk bsk bs ins plain g ++ xs)
        (short_brought g l (ciphers_to p ksk bsk bs ins g) done (λ w h. sym (operand_wire p ksk bsk bs ins li g w l h)) (gate_wire p ksk bsk bs ins li g l) (drift_words_to p key z ksk bsk bs ins plain g))
