-- `drift_run::fresh_drift` meets its contract: the phase less the bit's word is the word of the fresh drift (`fresh_word_lem` of `drift`).
-- Assumes nothing.
use Rattle.std.proofs.Common.{◌≡◌, refl, sym, ap, ◌∙◌}
use mathlib.Core.Path.{ap₂}
use Prim.Native.Nat.{ℕ, ◌+◌, ◌%◌}
use Rattle.std.specs.Prelude.{Ok}
use Rattle.ring.specs.Word.{Q, neg}
use Rattle.ring.specs.Centre.{word_of}
use Rattle.params.proofs.Answers.{given_ok, given_done}
use Rattle.utils.specs.declared.Torus.{Torus}
use Rattle.drift.specs.Whole.{fresh_drift}
use Rattle.drift.specs.PrivateWords.{fresh_word}
use Rattle.drift.proofs.Suffice.{fresh_word_lem}
use Rattle.turns.proofs.Given.{value_is}
use Rattle.drift_run.proofs.fresh_drift.Goals as goal

pub returns : goal.returns
unfolding fresh_word
returns c =
    let g = c.args in
    let z = given_ok _ _ (sym c.in_ok-phase.ensures) in
    let phase = ap (λ (t : Torus). t.0) (value_is _ _ c.in_ok-phase.ensures z refl) in
    let drift : c.sub.result ≡ word_of (fresh_drift g.p g.key.now g.c.now g.bit) =
    c.sub.ensures ∙ ap₂ (λ (x y : ℕ). (x + neg y) % Q) phase c.bit_word.ensures ∙ sym (fresh_word_lem g.p g.key.now g.c.now g.bit)
    in
    let both : ◌≡◌ {A = Torus} (record { 0 = c.sub.result }) (record { 0 = word_of (fresh_drift g.p g.key.now g.c.now g.bit) }) = λ i. record { 0 = drift i } in
    ap Ok both ∙ sym (given_done _ _ z)
