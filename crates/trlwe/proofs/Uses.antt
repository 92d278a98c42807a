-- What callers of the routines cite: with good arguments a call is done and leaves what its definition says; and what that means: the phase of an
-- encrypted pair, its bits back after decryption, and the phase of an extracted sample.
-- Assumes nothing.
use mathlib.Core.Path.{◌≡◌, ap, ap₂, ◌∙◌}
use mathlib.Core.List.{List}
use Prim.Native.Nat.{ℕ, ◌+◌, ◌%◌, ◌<◌}
use lib.IntN.{nat_abs}
use lib.ListN.{length}
use Rattle.params.specs.declared.Params.{Params}
use Rattle.params.specs.Ranges.{InRange}
use Rattle.params.specs.Sizes.{size}
use Rattle.params.proofs.Answers.{when_done}
use Rattle.params.proofs.Ranges.{size_from}
use Rattle.ring.specs.Word.{Q, at, eighth}
use Rattle.ring.specs.Sums.{tab}
use Rattle.ring.specs.Poly.{plus}
use Rattle.ring.specs.Phase.{phase, after, phase_of}
use Rattle.ring.specs.Centre.{centre}
use Rattle.ring.proofs.Places.{length-plus}
use Rattle.trlwe.specs.Extract.{extract_number, extracted, extract_out}
use Rattle.trlwe.specs.Encrypt.{fresh_body, words_of_bits, mask_out, body_out}
use Rattle.trlwe.specs.Decrypt.{decrypted, decrypt_out}
use Rattle.trlwe.specs.Private.{EncryptGood}
use Rattle.trlwe.proofs.Checks.{extract_passes, encrypt_passes, DecryptGood, decrypt_passes}
use Rattle.trlwe.proofs.Pairs.{phase_fresh, bits_back, phase-extracted}
use Rattle.ring.specs.Bit.{truth, bit_number}

-- ---- `sample_extract_index`

module _ (p : Params) (r : InRange p) (a b : List ℕ) (k : ℕ) (o : List ℕ) (la : length a ≡ size p) (lb : length b ≡ size p) (lo : length o ≡ size p + 1) (lk : k < size p) where
  pub extract_done : extract_number p (length a) (length b) k (length o) ≡ 0
  extract_done = extract_passes p (length a) (length b) k (length o) r la lb lo lk

  pub sample_extract_index_done : extract_out p a b k o ≡ extracted (size p) k a b
  sample_extract_index_done = when_done _ _ _ extract_done

  -- coefficient k of the pair's phase, and the ones of the key after k (01, Drift)
  pub sample_extract_index_phase : (z : List ℕ) → phase_of (size p) z (extract_out p a b k o) ≡ (at (phase (size p) z a b) k + after (size p) k z) % Q
  sample_extract_index_phase z = ap (phase_of (size p) z) sample_extract_index_done ∙ phase-extracted (size p) (size_from p) k z a b lk

-- ---- `encrypt_f64` and `encrypt_bool`

module _ (p : Params) (lp : ℕ) (plain masks noise key a b : List ℕ) (g : EncryptGood p lp (length masks) (length noise) key (length a) (length b)) where
  pub encrypt_mask_done : mask_out p lp masks noise key a b ≡ masks
  encrypt_mask_done = when_done _ _ _ (encrypt_passes p lp _ _ key _ _ g)

  pub encrypt_body_done : body_out p lp plain masks noise key a b ≡ fresh_body (size p) plain noise masks key
  encrypt_body_done = when_done _ _ _ (encrypt_passes p lp _ _ key _ _ g)

  pub encrypt_phase : phase (size p) key (mask_out p lp masks noise key a b) (body_out p lp plain masks noise key a b) ≡ plus (size p) plain noise
  encrypt_phase = ap₂ (phase (size p) key) encrypt_mask_done encrypt_body_done ∙ phase_fresh (size p) (size_from p) plain noise masks key

-- ---- `decrypt_bool`

pub decrypt_bool_done : (p : Params) (a b key o : List ℕ) → DecryptGood p (length a) (length b) key (length o) → decrypt_out p a b key o ≡ decrypted (size p) key a b
decrypt_bool_done p a b key o g = when_done _ _ _ (decrypt_passes p _ _ key _ g)

length_fresh : (N : ℕ) (plain noise masks z : List ℕ) → length (fresh_body N plain noise masks z) ≡ N
unfolding fresh_body
length_fresh N plain noise masks z = length-plus N _ _

-- encrypted bits come back, where every noise word, centred, is strictly inside 2^29
pub encrypt_decrypt : (p : Params) (bytes masks noise key a b o : List ℕ)
    → EncryptGood p (length bytes) (length masks) (length noise) key (length a) (length b) → length o ≡ size p
    → ((i : ℕ) → at noise i < Q) → ((i : ℕ) → i < size p → nat_abs (centre (at noise i)) < eighth)
    → decrypt_out p (mask_out p (length bytes) masks noise key a b) (body_out p (length bytes) (words_of_bits bytes) masks noise key a b) key o
    ≡ tab (size p) (λ i. bit_number (truth (at bytes i)))
encrypt_decrypt p bytes masks noise key a b o g lo w s =
    ap₂ (λ (x y : List ℕ). decrypt_out p x y key o) (encrypt_mask_done p (length bytes) (words_of_bits bytes) masks noise key a b g)
    (encrypt_body_done p (length bytes) (words_of_bits bytes) masks noise key a b g)
    ∙ decrypt_bool_done p masks (fresh_body (size p) (words_of_bits bytes) noise masks key) key o (record {
      range = g.range;
      mask = g.masks;
      body = length_fresh (size p) (words_of_bits bytes) noise masks key;
      keys = g.keys;
      into = lo;
      bits = g.bits;
    })
    ∙ bits_back (size p) (size_from p) bytes noise masks key g.plain w s
