-- `bristol_form::head::head_limit` meets its contract: the two rows of sizes, then the number of outputs.
-- Assumes nothing.
use mathlib.Core.Bool.{Bool}
use mathlib.Core.Path.{◌≡◌, refl, sym, ap, ◌∙◌}
use Prim.Native.Nat.{ℕ, ◌+◌, ◌≤◌, ◌<◌}
use native.Mathlib.Omega.{arith}
use borrow.Author.Tests.{lt-ltb, le-ltb}
use Rattle.std.specs.Prelude.{Err}
use Rattle.std.proofs.Common.{rules}
use Rattle.params.specs.declared.refusal.Refusal.TheVariants.{Limit}
use Rattle.params.specs.Refusal.{unless, done}
use Rattle.tokens.specs.Tokens.{place_at}
use Rattle.tokens.proofs.Reading.{reading, past_as}
use Rattle.bristol_form.specs.Says.{input_values, input_sizes, output_values, outputs}
use Rattle.bristol_form.specs.Form.{head_limit}
use Rattle.bristol_form.specs.Private.{sizes_answer}
use Rattle.bristol_form.proofs.Tells.{mapped_err, mapped_ok, given_limit}
use Rattle.bristol_form.proofs.Summed.{sizes_as}
use Rattle.bristol_form.proofs.Heading.{inputs_past, outputs_past, outputs_some}
use Rattle.bristol_form.proofs.head.head_limit.Goals as goal

pub returns-in_err-map_err : goal.returns-in_err-map_err
returns-in_err-map_err c =
    let b = c.args.text.now in
    let m = mapped_err (λ p. Limit p) c.sizes.result c.map_err.result c.map_err.ensures.cases c.in_err-map_err.was in
    let told = sizes_as b 12 c.requires.0 refl c.requires.1 (c.sizes.ensures.told 12 (omega arith)) ∙ ap (sizes_answer 12) m.1 in
    let f : c.from_residual.result ≡ Err c.in_err-map_err.field-0.0 = search rules in
    f ∙ ap (λ r. Err r) m.2 ∙ given_limit (head_limit b) tt m.0 m.0 (inputs_past b m.0 told) refl

pub returns-in_err-map_err-2 : goal.returns-in_err-map_err-2
returns-in_err-map_err-2 c =
    let b = c.args.text.now in
    let i = mapped_ok (λ p. Limit p) c.sizes.result c.map_err.result c.map_err.ensures.cases c.in_ok-map_err.was in
    let none = sizes_as b 12 c.requires.0 refl c.requires.1 (c.sizes.ensures.told 12 (omega arith)) ∙ ap (sizes_answer 12) i in
    let m = mapped_err (λ p. Limit p) c.sizes-2.result c.map_err-2.result c.map_err-2.ensures.cases c.in_err-map_err-2.was in
    let told = sizes_as b 12 c.requires.2 refl c.requires.3 (c.sizes-2.ensures.told 12 (omega arith)) ∙ ap (sizes_answer 12) m.1 in
    let f : c.from_residual-in_err-map_err-2.result ≡ Err c.in_err-map_err-2.field-0.0 = search rules in
    f ∙ ap (λ r. Err r) m.2 ∙ given_limit (head_limit b) tt m.0 m.0 (outputs_past b m.0 none told) refl

pub returns-then-sum-eq0 : goal.returns-then-sum-eq0
returns-then-sum-eq0 c =
    let b = c.args.text.now in
    let i = mapped_ok (λ p. Limit p) c.sizes.result c.map_err.result c.map_err.ensures.cases c.in_ok-map_err.was in
    let o = mapped_ok (λ p. Limit p) c.sizes-2.result c.map_err-2.result c.map_err-2.ensures.cases c.in_ok-map_err-2.was in
    let inputs_none = sizes_as b 12 c.requires.0 refl c.requires.1 (c.sizes.ensures.told 12 (omega arith)) ∙ ap (sizes_answer 12) i in
    let outputs_none = sizes_as b 12 c.requires.2 refl c.requires.3 (c.sizes-2.ensures.told 12 (omega arith)) ∙ ap (sizes_answer 12) o in
    let last = (reading b (input_sizes b) (input_values b + output_values b) (past_as b c.requires.0 (ap (λ (n : ℕ). n + c.args.outs) c.requires.1 ∙ ap (λ (n : ℕ). input_values b + n) c.requires.3) c.skip.ensures) c.next.ensures).start_is in
    let none : outputs b ≤ 0 = omega (arith, c.requires.4, c.if-sum-eq0.true) in
    sym (ap (λ (t : Bool). unless t (Limit c.next.result.start) done) (le-ltb 0 (outputs b) none)) ∙ outputs_some b c.next.result.start inputs_none outputs_none last

pub returns : goal.returns
returns c =
    let b = c.args.text.now in
    let i = mapped_ok (λ p. Limit p) c.sizes.result c.map_err.result c.map_err.ensures.cases c.in_ok-map_err.was in
    let o = mapped_ok (λ p. Limit p) c.sizes-2.result c.map_err-2.result c.map_err-2.ensures.cases c.in_ok-map_err-2.was in
    let inputs_none = sizes_as b 12 c.requires.0 refl c.requires.1 (c.sizes.ensures.told 12 (omega arith)) ∙ ap (sizes_answer 12) i in
    let outputs_none = sizes_as b 12 c.requires.2 refl c.requires.3 (c.sizes-2.ensures.told 12 (omega arith)) ∙ ap (sizes_answer 12) o in
    let some : 0 < outputs b = omega (arith, c.requires.4, c.if-sum-eq0.false) in
    let at : ℕ = place_at b (input_sizes b) (input_values b + output_values b) in
    sym (ap (λ (t : Bool). unless t (Limit at) done) (lt-ltb 0 (outputs b) some)) ∙ outputs_some b at inputs_none outputs_none refl
