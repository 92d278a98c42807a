-- `encrypted_run::steps::one` meets its contract: the scratch has room for a ciphertext.
-- Assumes nothing.
use mathlib.Core.Path.{refl, sym}
use Rattle.gates.proofs.Checks.{level0_to}
use Rattle.words.proofs.Scratch.{scratch}
use Rattle.encrypted_run.proofs.steps.one.Goals as goal

pub slice_bounds-c-end : goal.slice_bounds-c-end
slice_bounds-c-end c = level0_to c.args.p _ c.requires.0.keys.good refl

pub slice_bounds-one_on-end : goal.slice_bounds-one_on-end
slice_bounds-one_on-end c = sym (scratch 1101 _ (level0_to c.args.p _ c.requires.0.keys.good refl))

pub one_on-requires : goal.one_on-requires
one_on-requires c = (c.requires.0, c.requires.1, scratch 1101 _ (level0_to c.args.p _ c.requires.0.keys.good refl))
