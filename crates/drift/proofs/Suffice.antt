-- Words suffice to reckon a drift (01, Drift: 'centred at its end, so words suffice to reckon it'): each whole-number drift brought modulo 2^32 is the
-- word, and a centred number is settled by its word, so each drift of a gate is the centred number of its word. Each law cites the agreement of the parts.
-- Assumes nothing.
use mathlib.Core.Path.{◌≡◌, refl, sym, ap, ◌∙◌}
use mathlib.Core.Bool.{Bool, true, false}
use mathlib.Core.List.{List}
use Prim.Native.Nat.{ℕ, ◌%◌, ◌<◌}
use native.Mathlib.Nat.{mod-eq_of_lt}
use lib.IntN.{ℤ, pos, neg_ℤ, ◌*ℤ◌}
use Rattle.ring.specs.Word.{Q, neg, eighth}
use Rattle.ring.specs.Centre.{centre, word_of}
use Rattle.params.specs.declared.Params.{Params}
use Rattle.tlwe.specs.Key.{binary}
use Rattle.tlwe.specs.Plain.{bit_word}
use Rattle.gate_sums.specs.declared.Kind.{Kind}
use Rattle.gate_sums.specs.Kind.{row_of, sign}
use Rattle.gate_sums.specs.Weights.{weights_of}
use Rattle.gate_sums.specs.Sum.{mux_sum}
use Rattle.drift.specs.Polynomials.{centred}
use Rattle.drift.specs.Whole.{inside, fresh_drift, brought_in, rotated_drift, gate_drift, mux_drift}
use Rattle.drift.specs.PrivateWords.{brought_word, rotated_word, gate_word, mux_word, fresh_word}
use Rattle.drift.proofs.Residues.{Is, is_pos, is_add, is_times, is_neg, is_minus, is_same, is_word, is_only, is_centre, is_centred, is_phase, word_below}
use Rattle.drift.proofs.Parts.{is_rounding, is_extracted, is_switched}
use Rattle.drift.proofs.Phases.{key_bit}
use Rattle.samples.specs.Sample.{sample_from, rotated_sample}
use Rattle.key.specs.Testvec.{test_pair}
use Rattle.ring.specs.Pair.{Pair}
use Rattle.drift_size.specs.Size.{inside_word}

-- ---- words and centred numbers

pub centred_word : (x : ℤ) → word_of (centred x) ≡ word_of x
centred_word x = is_only (is_centred (is_word x)) ∙ mod-eq_of_lt (word_below x)

-- a centred number is settled by its word
pub centred_back : (x : ℤ) → centred x ≡ centre (word_of (centred x))
unfolding centred
centred_back x = ap centre (sym (centred_word x))

pub word_centred : (x : ℕ) → x < Q → word_of (centre x) ≡ x
word_centred x l = is_only (is_centre x l) ∙ mod-eq_of_lt l

pub inside_words : (x : ℤ) → inside (centred x) ≡ inside_word (word_of x)
unfolding inside centred inside_word
inside_words x = refl

-- what `not` and kind 8 give
pub negated_word : (d : ℤ) → word_of (centred (neg_ℤ d)) ≡ neg (word_of d) % Q
negated_word d = is_only (is_centred (is_neg (is_word d)))

-- ---- fresh and brought-in drifts

pub is_bit : (bit : Bool) → Is (sign bit *ℤ pos eighth) (bit_word bit)
unfolding neg Q
is_bit true = is_times (is_pos 1) (is_pos eighth)
is_bit false = is_same (bit_word false) (is_times (is_neg (is_pos 1)) (is_pos eighth)) refl

pub fresh_word_lem : (p : Params) (key c : List ℕ) (bit : Bool) → word_of (fresh_drift p key c bit) ≡ fresh_word p key c bit
unfolding fresh_drift fresh_word
fresh_word_lem p key c bit = is_only (is_centred (is_minus (is_phase p.n key c) (is_bit bit)))

pub brought_word_lem : (p : Params) (kind : Kind) (key src : List ℕ) (da db : ℤ) → word_of (brought_in p kind key src da db) ≡ brought_word p kind key src (word_of da) (word_of db)
unfolding brought_in brought_word weights_of
brought_word_lem p kind key src da db =
    is_only (is_centred (is_add (is_add (is_times (is_word (row_of kind).a) (is_word da)) (is_times (is_word (row_of kind).b) (is_word db))) (is_rounding p key src)))

-- ---- the gates

module _ (p : Params) (key z : List ℕ) (binary_key : binary key ≡ true) where
  -- of any vector that is rotated
  pub rotated_word_lem : (ksk bsk : List ℕ) (v : Pair) (src : List ℕ) → word_of (rotated_drift p key z ksk bsk v src) ≡ rotated_word p key z ksk bsk v src
  unfolding rotated_drift rotated_word
  rotated_word_lem ksk bsk v src = is_only (is_centred (is_add (is_extracted p z key (key_bit key binary_key) bsk v src) (is_switched p key z ksk (sample_from p v bsk src))))

  pub gate_word_lem : (ksk bsk src : List ℕ) → word_of (gate_drift p key z ksk bsk src) ≡ gate_word p key z ksk bsk src
  unfolding gate_drift gate_word
  gate_word_lem ksk bsk src = rotated_word_lem ksk bsk (test_pair p) src

  pub mux_word_lem : (ksk bsk src src2 : List ℕ) → word_of (mux_drift p key z ksk bsk src src2) ≡ mux_word p key z ksk bsk src src2
  unfolding mux_drift mux_word
  mux_word_lem ksk bsk src src2 =
      let e = is_extracted p z key (key_bit key binary_key) bsk (test_pair p) in
      is_only (is_centred (is_add (is_add (e src) (e src2)) (is_switched p key z ksk (mux_sum p (rotated_sample p bsk src) (rotated_sample p bsk src2)))))

-- ---- the theorem

-- The drift x is reckoned by the word n: n is x brought modulo 2^32, x is the centred number of n, and whether x is inside is told by n.
pub record Reckoned (x : ℤ) (n : ℕ) : Type 0 where
  pub word_is : word_of x ≡ n
  pub drift_is : x ≡ centre n
  pub inside_is : inside x ≡ inside_word n

pub reckoned : (x : ℤ) (n : ℕ) → x ≡ centre (word_of x) → word_of x ≡ n → Reckoned x n
unfolding inside inside_word
reckoned x n b e = record { word_is = e; drift_is = b ∙ ap centre e; inside_is = ap inside (b ∙ ap centre e) }

-- what suffices for the gates under the keys key and z, whose key material bsk and ksk may hold anything
pub record Sufficient (p : Params) (key z ksk bsk : List ℕ) : Type 0 where
  pub of_fresh : (c : List ℕ) (bit : Bool) → Reckoned (fresh_drift p key c bit) (fresh_word p key c bit)
  pub of_brought : (kind : Kind) (src : List ℕ) (da db : ℤ) → Reckoned (brought_in p kind key src da db) (brought_word p kind key src (word_of da) (word_of db))
  pub of_gate : (src : List ℕ) → Reckoned (gate_drift p key z ksk bsk src) (gate_word p key z ksk bsk src)
  pub of_mux : (src src2 : List ℕ) → Reckoned (mux_drift p key z ksk bsk src src2) (mux_word p key z ksk bsk src src2)
  pub of_negated : (d : ℤ) → Reckoned (centred (neg_ℤ d)) (neg (word_of d) % Q)

pub words_suffice : (p : Params) (key z : List ℕ) → binary key ≡ true → (ksk bsk : List ℕ) → Sufficient p key z ksk bsk
unfolding fresh_drift brought_in gate_drift rotated_drift mux_drift
words_suffice p key z binary_key ksk bsk = record {
  of_fresh = λ c bit. reckoned _ _ (centred_back _) (fresh_word_lem p key c bit);
  of_brought = λ kind src da db. reckoned _ _ (centred_back _) (brought_word_lem p kind key src da db);
  of_gate = λ src. reckoned _ _ (centred_back _) (gate_word_lem p key z binary_key ksk bsk src);
  of_mux = λ src src2. reckoned _ _ (centred_back _) (mux_word_lem p key z binary_key ksk bsk src src2);
  of_negated = λ d. reckoned _ _ (centred_back (neg_ℤ d)) (negated_word d);
}
