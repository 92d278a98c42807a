-- The refusals taken apart and put together.
-- Assumes nothing.
use mathlib.Core.Path.{◌≡◌, refl}
use mathlib.Core.Bool.{true}
use mathlib.Core.List.{List}
use Prim.Native.Nat.{ℕ, ◌+◌, ◌<◌}
use lib.ListN.{length}
use Rattle.params.specs.declared.Params.{Params}
use Rattle.params.specs.Ranges.{InRange}
use Rattle.params.specs.Sizes.{size}
use Rattle.params.proofs.Ranges.{in_range, not_refused}
use Rattle.refusals.proofs.Table.{good, done}
use Rattle.tlwe.specs.Key.{binary}
use Rattle.trlwe.specs.Extract.{extract_checks, extract_number}
use Rattle.trlwe.specs.Encrypt.{encrypt_pair_checks, encrypt_pair_number}
use Rattle.trlwe.specs.Decrypt.{decrypt_pair_checks, decrypt_pair_number}
use Rattle.trlwe.specs.Private.{EncryptGood}

-- ---- extraction

-- what holds of an extraction that is not refused
pub record ExtractGood (p : Params) (la lb k lo : ℕ) : Type 0 where
  pub range : InRange p
  pub mask : la ≡ size p
  pub body : lb ≡ size p
  pub into : lo ≡ size p + 1
  pub index : k < size p

module _ (p : Params) (la lb k lo : ℕ) where
  pub extract_good : extract_number p la lb k lo ≡ 0 → ExtractGood p la lb k lo
  unfolding extract_number
  extract_good e =
      let f = good p (extract_checks p la lb k lo) refl e in
      record { range = in_range p f.0; mask = f.1.0; body = f.1.1.0; into = f.1.1.1.0; index = f.1.1.1.1.0 }

  pub extract_passes : InRange p → la ≡ size p → lb ≡ size p → lo ≡ size p + 1 → k < size p → extract_number p la lb k lo ≡ 0
  unfolding extract_number
  extract_passes r a b o l = done p (extract_checks p la lb k lo) (not_refused p r, (a, (b, (o, (l, tt)))))

-- ---- encryption

module _ (p : Params) (lp lm ln : ℕ) (key : List ℕ) (la lb : ℕ) where
  pub encrypt_good : encrypt_pair_number p lp lm ln key la lb ≡ 0 → EncryptGood p lp lm ln key la lb
  unfolding encrypt_pair_number
  encrypt_good e =
      let f = good p (encrypt_pair_checks p lp lm ln key la lb) refl e in
      record {
        range = in_range p f.0;
        plain = f.1.0;
        masks = f.1.1.0;
        noise = f.1.1.1.0;
        keys = f.1.1.1.1.0;
        mask = f.1.1.1.1.1.0;
        body = f.1.1.1.1.1.1.0;
        bits = f.1.1.1.1.1.1.1.0;
      }

  pub encrypt_passes : EncryptGood p lp lm ln key la lb → encrypt_pair_number p lp lm ln key la lb ≡ 0
  unfolding encrypt_pair_number
  encrypt_passes g =
      done p (encrypt_pair_checks p lp lm ln key la lb)
      (not_refused p g.range, (g.plain, (g.masks, (g.noise, (g.keys, (g.mask, (g.body, (g.bits, tt))))))))

-- ---- decryption

-- what holds of a decryption that is not refused
pub record DecryptGood (p : Params) (la lb : ℕ) (key : List ℕ) (lo : ℕ) : Type 0 where
  pub range : InRange p
  pub mask : la ≡ size p
  pub body : lb ≡ size p
  pub keys : length key ≡ size p
  pub into : lo ≡ size p
  pub bits : binary key ≡ true

module _ (p : Params) (la lb : ℕ) (key : List ℕ) (lo : ℕ) where
  pub decrypt_good : decrypt_pair_number p la lb key lo ≡ 0 → DecryptGood p la lb key lo
  unfolding decrypt_pair_number
  decrypt_good e =
      let f = good p (decrypt_pair_checks p la lb key lo) refl e in
      record { range = in_range p f.0; mask = f.1.0; body = f.1.1.0; keys = f.1.1.1.0; into = f.1.1.1.1.0; bits = f.1.1.1.1.1.0 }

  pub decrypt_passes : DecryptGood p la lb key lo → decrypt_pair_number p la lb key lo ≡ 0
  unfolding decrypt_pair_number
  decrypt_passes g = done p (decrypt_pair_checks p la lb key lo) (not_refused p g.range, (g.mask, (g.body, (g.keys, (g.into, (g.bits, tt))))))
