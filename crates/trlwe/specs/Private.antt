-- What only code and proofs need: what holds of an encryption that is not refused.
use Rattle.std.specs.Prelude.{List, ℕ, ◌≡◌, true, length}
use Rattle.params.specs.declared.Params.{Params}
use Rattle.params.specs.Ranges.{InRange}
use Rattle.params.specs.Sizes.{size}
use Rattle.tlwe.specs.Key.{binary}

pub record EncryptGood (p : Params) (lp lm ln : ℕ) (key : List ℕ) (la lb : ℕ) : Type 0 where
  pub range : InRange p
  pub plain : lp ≡ size p
  pub masks : lm ≡ size p
  pub noise : ln ≡ size p
  pub keys : length key ≡ size p
  pub mask : la ≡ size p
  pub body : lb ≡ size p
  pub bits : binary key ≡ true
