-- The refusals of this crate's routines: what arguments that are not refused have, and that such arguments are not refused, from the tables' laws.
-- Assumes nothing.
use mathlib.Core.Path.{◌≡◌, refl}
use mathlib.Core.Bool.{true}
use mathlib.Core.List.{List}
use Prim.Native.Nat.{ℕ, ◌*◌}
use lib.ListN.{length}
use Rattle.params.specs.declared.Params.{Params}
use Rattle.params.specs.Ranges.{params_number, InRange}
use Rattle.params.specs.Sizes.{size, bit_words, bootstrapping_words}
use Rattle.params.proofs.Ranges.{in_range}
use Rattle.tlwe.specs.Key.{binary}
use Rattle.refusals.proofs.Table.{good, done}
use Rattle.bootstrapping.specs.Rows.{bit_draws}
use Rattle.bootstrapping.specs.Refusals.{torus_checks, torus_number, bootstrapping_checks, bootstrapping_number}

-- ---- one bit

pub record TorusGood (p : Params) (masks noise : ℕ) (z : List ℕ) (out : ℕ) : Type 0 where
  pub range : InRange p
  pub masks_length : masks ≡ bit_draws p
  pub noise_length : noise ≡ bit_draws p
  pub z_length : length z ≡ size p
  pub rows : out ≡ bit_words p
  pub z_binary : binary z ≡ true

pub torus_good : (p : Params) (masks noise : ℕ) (z : List ℕ) (out : ℕ) → torus_number p masks noise z out ≡ 0 → TorusGood p masks noise z out
unfolding torus_number
torus_good p masks noise z out e =
    let f = good p (torus_checks p masks noise z out) refl e in
    record { range = in_range p f.0; masks_length = f.1.0; noise_length = f.1.1.0; z_length = f.1.1.1.0; rows = f.1.1.1.1.0; z_binary = f.1.1.1.1.1.0 }

-- for callers: good arguments are not refused
pub torus_done : (p : Params) (masks noise : ℕ) (z : List ℕ) (out : ℕ) → params_number p ≡ 0 → TorusGood p masks noise z out → torus_number p masks noise z out ≡ 0
unfolding torus_number
torus_done p masks noise z out e g = done p (torus_checks p masks noise z out) (e, (g.masks_length, (g.noise_length, (g.z_length, (g.rows, (g.z_binary, tt))))))

-- ---- the whole key

pub record BootstrappingGood (p : Params) (key z : List ℕ) (masks noise out : ℕ) : Type 0 where
  pub range : InRange p
  pub key_length : length key ≡ p.n
  pub z_length : length z ≡ size p
  pub masks_length : masks ≡ p.n * bit_draws p
  pub noise_length : noise ≡ p.n * bit_draws p
  pub rows : out ≡ bootstrapping_words p
  pub key_binary : binary key ≡ true
  pub z_binary : binary z ≡ true

pub bootstrapping_good : (p : Params) (key z : List ℕ) (masks noise out : ℕ) → bootstrapping_number p key z masks noise out ≡ 0 → BootstrappingGood p key z masks noise out
unfolding bootstrapping_number
bootstrapping_good p key z masks noise out e =
    let f = good p (bootstrapping_checks p key z masks noise out) refl e in
    record {
      range = in_range p f.0;
      key_length = f.1.0;
      z_length = f.1.1.0;
      masks_length = f.1.1.1.0;
      noise_length = f.1.1.1.1.0;
      rows = f.1.1.1.1.1.0;
      key_binary = f.1.1.1.1.1.1.0;
      z_binary = f.1.1.1.1.1.1.1.0;
    }

-- for callers: good arguments are not refused
pub bootstrapping_done : (p : Params) (key z : List ℕ) (masks noise out : ℕ) → params_number p ≡ 0 → BootstrappingGood p key z masks noise out
    → bootstrapping_number p key z masks noise out ≡ 0
unfolding bootstrapping_number
bootstrapping_done p key z masks noise out e g =
    done p (bootstrapping_checks p key z masks noise out)
    (e, (g.key_length, (g.z_length, (g.masks_length, (g.noise_length, (g.rows, (g.key_binary, (g.z_binary, tt))))))))
