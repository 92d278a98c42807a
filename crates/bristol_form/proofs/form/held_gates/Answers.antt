-- `bristol_form::form::held_gates` meets its contract: the inputs' bits are set first, and the gates are read over them.
-- Assumes nothing.
use mathlib.Core.Path.{refl}
use Rattle.bristol_form.proofs.Carried.{holds_first}
use Rattle.bristol_form.proofs.form.held_gates.Goals as goal

pub all_gates-requires : goal.all_gates-requires
all_gates-requires c =
    let f = c.put_first in
    (c.requires, holds_first c.args.text.now 49152 f.new.bits refl c.requires.inputs_are f.ensures.bits_len_unchanged f.ensures.each)
