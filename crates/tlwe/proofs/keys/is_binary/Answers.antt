-- `tlwe::keys::is_binary` meets its contract: what was seen of some words is at most 1 where those are binary.
-- Assumes nothing.
use Rattle.std.proofs.Common.{◌≡◌, subst, rules, refl, leb}
use Rattle.std.proofs.lemmas.Fn.{fold_over, slice_gives, fronts}
use Rattle.tlwe.specs.Key.{binary}
use Rattle.tlwe.proofs.Checks.{key_push}
use Rattle.tlwe.proofs.keys.is_binary.Goals as goal

pub returns : goal.returns
unfolding binary
returns c = subst (λ ks. leb c.fold.result 1 ≡ binary ks) c.iter.ensures.rest
    (fold_over fronts (λ y. y.now) _ (λ ks n. leb n 1 ≡ binary ks) _ (λ ks a k b f' j call. let p = key_push ks a k.now j in search rules) _ _ _ _ (slice_gives c.iter.result) refl c.fold.ensures.ran)
