-- `bristol_form::head::head` meets its contract: each token is what the text says there, and each test refuses as the head's answer does.
-- Assumes nothing.
use mathlib.Core.Bool.{true, false}
use mathlib.Core.Path.{◌≡◌, refl, sym, ap, ◌∙◌}
use Prim.Native.Nat.{◌+◌}
use native.Mathlib.Omega.{arith}
use borrow.Author.Tests.{leb-true, leb-false}
use lib.Dec.{leb}
use Rattle.std.specs.Prelude.{Err}
use Rattle.std.proofs.Common.{rules}
use Rattle.params.specs.Refusal.{Answer}
use Rattle.params.specs.declared.refusal.Refusal.TheVariants.{Text}
use Rattle.tokens.specs.Tokens.{past, place_at}
use Rattle.tokens.proofs.Laws.{past_none, past_more}
use Rattle.tokens.proofs.Reading.{reading}
use Rattle.bristol_form.specs.Says.{sizes_to, input_values, input_sizes}
use Rattle.bristol_form.specs.Form.{head_answer}
use Rattle.bristol_form.specs.Private.{sizes_answer, head_of}
use Rattle.bristol_form.proofs.Tells.{given_text, given_value, unless_text, unless_held, mapped_err, mapped_ok, if_ok}
use Rattle.bristol_form.proofs.Heading.{not_gates, not_wires, few_wires, not_values, input_sizes_lem, output_values_lem, output_sizes_lem, is_number, not_number, begun, inputs_told, values_next, set_read, inputs_are, outputs_told, outputs_are, body_is, inputs_refused, wires_left, not_outputs, outputs_decide}
use Rattle.bristol_form.proofs.head.head.Goals as goal

pub returns-in_err-g : goal.returns-in_err-g
returns-in_err-g c =
    let b = c.args.text.now in
    let x = not_number b 0 0 (sym (past_none b 0)) (sym c.number.ensures ∙ c.in_err-g.was) in
    let f : c.from_residual.result ≡ Err c.in_err-g.field-0.0 = search rules in
    f ∙ ap (λ r. Err r) x.1 ∙ given_text (head_answer b) (head_of b) _ _ (not_gates b x.0) refl

pub returns-in_err-w : goal.returns-in_err-w
returns-in_err-w c =
    let b = c.args.text.now in
    let G = is_number b 0 0 (sym (past_none b 0)) (sym c.number.ensures ∙ c.in_ok-g.was) in
    let x = not_number b 0 1 G.0.end_is (sym c.number-2.ensures ∙ c.in_err-w.was) in
    let f : c.from_residual-in_err-w.result ≡ Err c.in_err-w.field-0.0 = search rules in
    f ∙ ap (λ r. Err r) x.1 ∙ given_text (head_answer b) (head_of b) _ _ (not_wires b G.1 x.0) refl

pub returns-in_err-unless : goal.returns-in_err-unless
returns-in_err-unless c =
    let b = c.args.text.now in
    let G = is_number b 0 0 (sym (past_none b 0)) (sym c.number.ensures ∙ c.in_ok-g.was) in
    let W = is_number b 0 1 G.0.end_is (sym c.number-2.ensures ∙ c.in_ok-w.was) in
    let f : c.from_residual-in_err-unless.result ≡ Err c.in_err-unless.field-0.0 = search rules in
    f ∙ unless_text (leb c.in_ok-g.g.number c.in_ok-w.w.number) c.in_ok-w.w.start (head_answer b) (head_of b) (place_at b 0 1) (sym c.unless.ensures ∙ c.in_err-unless.was) W.0.start_is
    (λ z. let l = leb-false c.in_ok-g.g.number c.in_ok-w.w.number z in let u = G.0.number_is in let v = W.0.number_is in few_wires b G.1 W.1 (omega arith))

pub returns-in_err-n : goal.returns-in_err-n
returns-in_err-n c =
    let b = c.args.text.now in
    let G = is_number b 0 0 (sym (past_none b 0)) (sym c.number.ensures ∙ c.in_ok-g.was) in
    let W = is_number b 0 1 G.0.end_is (sym c.number-2.ensures ∙ c.in_ok-w.was) in
    let room = unless_held (leb c.in_ok-g.g.number c.in_ok-w.w.number) (Text c.in_ok-w.w.start) (sym c.unless.ensures ∙ c.in_ok-unless.was) in
    let l = leb-true c.in_ok-g.g.number c.in_ok-w.w.number room in
    let u = G.0.number_is in
    let v = W.0.number_is in
    let x = not_number b 0 2 W.0.end_is (sym c.number-3.ensures ∙ c.in_err-n.was) in
    let f : c.from_residual-in_err-n.result ≡ Err c.in_err-n.field-0.0 = search rules in
    f ∙ ap (λ r. Err r) x.1 ∙ given_text (head_answer b) (head_of b) _ _ (not_values b G.1 W.1 (omega arith) x.0) refl

pub returns-in_err-ins : goal.returns-in_err-ins
returns-in_err-ins c =
    let b = c.args.text.now in
    let room = unless_held (leb c.in_ok-g.g.number c.in_ok-w.w.number) (Text c.in_ok-w.w.start) (sym c.unless.ensures ∙ c.in_ok-unless.was) in
    let k = begun b (sym c.number.ensures ∙ c.in_ok-g.was) (sym c.number-2.ensures ∙ c.in_ok-w.was) room (sym c.number-3.ensures ∙ c.in_ok-n.was) in
    let m = mapped_err (λ p. Text p) c.sizes.result c.map_err.result c.map_err.ensures.cases c.in_err-ins.was in
    let told = inputs_told b k (c.sizes.ensures.told 11 (omega arith) ∙ ap (sizes_answer 11) m.1) in
    let f : c.from_residual-in_err-ins.result ≡ Err c.in_err-ins.field-0.0 = search rules in
    f ∙ ap (λ r. Err r) m.2 ∙ given_text (head_answer b) (head_of b) m.0 m.0 (inputs_refused b k.counts m.0 told) refl

pub returns-then-not-all_set : goal.returns-then-not-all_set
returns-then-not-all_set c =
    let b = c.args.text.now in
    let room = unless_held (leb c.in_ok-g.g.number c.in_ok-w.w.number) (Text c.in_ok-w.w.start) (sym c.unless.ensures ∙ c.in_ok-unless.was) in
    let k = begun b (sym c.number.ensures ∙ c.in_ok-g.was) (sym c.number-2.ensures ∙ c.in_ok-w.was) room (sym c.number-3.ensures ∙ c.in_ok-n.was) in
    let i = mapped_ok (λ p. Text p) c.sizes.result c.map_err.result c.map_err.ensures.cases c.in_ok-ins.was in
    let inputs_none = ap (λ (a : Answer). a.number) (inputs_told b k (c.sizes.ensures.told 11 (omega arith) ∙ ap (sizes_answer 11) i)) in
    let s = if_ok (λ s. (s.sum ≡ sizes_to b c.in_ok-n.n.end c.in_ok-n.n.number) × (s.at ≡ past b c.in_ok-n.n.end c.in_ok-n.n.number)) c.sizes.result c.in_ok-ins.ins c.sizes.ensures.summed i in
    let last = reading b 0 (2 + input_values b) (c.skip.ensures ∙ ap (λ q. past b q c.in_ok-n.n.number) k.wires_read.end_is ∙ ap (past b (past b 0 2)) k.values_read.number_is ∙ sym (past_more b 0 2 (input_values b))) c.next.ensures in
    let unset : c.all_set.result ≡ false = search rules in
    given_text (head_answer b) (head_of b) c.next.result.start (place_at b 0 (2 + input_values b)) (wires_left b k.counts inputs_none (sym (set_read b k c.in_ok-ins.ins s c.all_set.ensures) ∙ unset)) last.start_is

pub returns-in_err-m : goal.returns-in_err-m
returns-in_err-m c =
    let b = c.args.text.now in
    let room = unless_held (leb c.in_ok-g.g.number c.in_ok-w.w.number) (Text c.in_ok-w.w.start) (sym c.unless.ensures ∙ c.in_ok-unless.was) in
    let k = begun b (sym c.number.ensures ∙ c.in_ok-g.was) (sym c.number-2.ensures ∙ c.in_ok-w.was) room (sym c.number-3.ensures ∙ c.in_ok-n.was) in
    let i = mapped_ok (λ p. Text p) c.sizes.result c.map_err.result c.map_err.ensures.cases c.in_ok-ins.was in
    let inputs_none = ap (λ (a : Answer). a.number) (inputs_told b k (c.sizes.ensures.told 11 (omega arith) ∙ ap (sizes_answer 11) i)) in
    let s = if_ok (λ s. (s.sum ≡ sizes_to b c.in_ok-n.n.end c.in_ok-n.n.number) × (s.at ≡ past b c.in_ok-n.n.end c.in_ok-n.n.number)) c.sizes.result c.in_ok-ins.ins c.sizes.ensures.summed i in
    let set : c.all_set.result ≡ true = search rules in
    let all = sym (set_read b k c.in_ok-ins.ins s c.all_set.ensures) ∙ set in
    let x = not_number b (input_sizes b) (input_values b) (values_next b k c.in_ok-ins.ins s) (sym c.number-4.ensures ∙ c.in_err-m.was) in
    let q = output_values_lem b in
    let f : c.from_residual-in_err-m.result ≡ Err c.in_err-m.field-0.0 = search rules in
    f ∙ ap (λ r. Err r) x.1 ∙ given_text (head_answer b) (head_of b) _ _ (not_outputs b k.counts inputs_none all (omega (arith, x.0))) refl

pub returns-in_err-outs : goal.returns-in_err-outs
returns-in_err-outs c =
    let b = c.args.text.now in
    let room = unless_held (leb c.in_ok-g.g.number c.in_ok-w.w.number) (Text c.in_ok-w.w.start) (sym c.unless.ensures ∙ c.in_ok-unless.was) in
    let k = begun b (sym c.number.ensures ∙ c.in_ok-g.was) (sym c.number-2.ensures ∙ c.in_ok-w.was) room (sym c.number-3.ensures ∙ c.in_ok-n.was) in
    let i = mapped_ok (λ p. Text p) c.sizes.result c.map_err.result c.map_err.ensures.cases c.in_ok-ins.was in
    let inputs_none = ap (λ (a : Answer). a.number) (inputs_told b k (c.sizes.ensures.told 11 (omega arith) ∙ ap (sizes_answer 11) i)) in
    let s = if_ok (λ s. (s.sum ≡ sizes_to b c.in_ok-n.n.end c.in_ok-n.n.number) × (s.at ≡ past b c.in_ok-n.n.end c.in_ok-n.n.number)) c.sizes.result c.in_ok-ins.ins c.sizes.ensures.summed i in
    let set : c.all_set.result ≡ true = search rules in
    let all = sym (set_read b k c.in_ok-ins.ins s c.all_set.ensures) ∙ set in
    let M = is_number b (input_sizes b) (input_values b) (values_next b k c.in_ok-ins.ins s) (sym c.number-4.ensures ∙ c.in_ok-m.was) in
    let m = mapped_err (λ p. Text p) c.sizes-2.result c.map_err-2.result c.map_err-2.ensures.cases c.in_err-outs.was in
    let told = outputs_told b k c.in_ok-ins.ins s M.0 (c.sizes-2.ensures.told 11 (omega arith) ∙ ap (sizes_answer 11) m.1) in
    let q = output_values_lem b in
    let f : c.from_residual-in_err-outs.result ≡ Err c.in_err-outs.field-0.0 = search rules in
    f ∙ ap (λ r. Err r) m.2 ∙ given_text (head_answer b) (head_of b) m.0 m.0 (outputs_decide b k.counts inputs_none all (omega (arith, M.1)) ∙ told) refl

pub head_limit-requires : goal.head_limit-requires
head_limit-requires c =
    let b = c.args.text.now in
    let room = unless_held (leb c.in_ok-g.g.number c.in_ok-w.w.number) (Text c.in_ok-w.w.start) (sym c.unless.ensures ∙ c.in_ok-unless.was) in
    let k = begun b (sym c.number.ensures ∙ c.in_ok-g.was) (sym c.number-2.ensures ∙ c.in_ok-w.was) room (sym c.number-3.ensures ∙ c.in_ok-n.was) in
    let i = mapped_ok (λ p. Text p) c.sizes.result c.map_err.result c.map_err.ensures.cases c.in_ok-ins.was in
    let s = if_ok (λ s. (s.sum ≡ sizes_to b c.in_ok-n.n.end c.in_ok-n.n.number) × (s.at ≡ past b c.in_ok-n.n.end c.in_ok-n.n.number)) c.sizes.result c.in_ok-ins.ins c.sizes.ensures.summed i in
    let M = is_number b (input_sizes b) (input_values b) (values_next b k c.in_ok-ins.ins s) (sym c.number-4.ensures ∙ c.in_ok-m.was) in
    let o = mapped_ok (λ p. Text p) c.sizes-2.result c.map_err-2.result c.map_err-2.ensures.cases c.in_ok-outs.was in
    let t = if_ok (λ t. (t.sum ≡ sizes_to b c.in_ok-m.m.end c.in_ok-m.m.number) × (t.at ≡ past b c.in_ok-m.m.end c.in_ok-m.m.number)) c.sizes-2.result c.in_ok-outs.outs c.sizes-2.ensures.summed o in
    let n = k.values_read in
    let q = M.0.number_is in
    let z = n.number_is in
    let v = k.counts.values_fit in
    (n.end_is ∙ input_sizes_lem b, n.number_is, M.0.end_is ∙ output_sizes_lem b, M.0.number_is ∙ output_values_lem b, outputs_are b k c.in_ok-ins.ins s M.0 t.0, omega arith, omega (arith, M.1))

pub returns : goal.returns
unfolding head_of
returns c =
    let b = c.args.text.now in
    let room = unless_held (leb c.in_ok-g.g.number c.in_ok-w.w.number) (Text c.in_ok-w.w.start) (sym c.unless.ensures ∙ c.in_ok-unless.was) in
    let k = begun b (sym c.number.ensures ∙ c.in_ok-g.was) (sym c.number-2.ensures ∙ c.in_ok-w.was) room (sym c.number-3.ensures ∙ c.in_ok-n.was) in
    let i = mapped_ok (λ p. Text p) c.sizes.result c.map_err.result c.map_err.ensures.cases c.in_ok-ins.was in
    let inputs_none = ap (λ (a : Answer). a.number) (inputs_told b k (c.sizes.ensures.told 11 (omega arith) ∙ ap (sizes_answer 11) i)) in
    let s = if_ok (λ s. (s.sum ≡ sizes_to b c.in_ok-n.n.end c.in_ok-n.n.number) × (s.at ≡ past b c.in_ok-n.n.end c.in_ok-n.n.number)) c.sizes.result c.in_ok-ins.ins c.sizes.ensures.summed i in
    let set : c.all_set.result ≡ true = search rules in
    let all = sym (set_read b k c.in_ok-ins.ins s c.all_set.ensures) ∙ set in
    let M = is_number b (input_sizes b) (input_values b) (values_next b k c.in_ok-ins.ins s) (sym c.number-4.ensures ∙ c.in_ok-m.was) in
    let o = mapped_ok (λ p. Text p) c.sizes-2.result c.map_err-2.result c.map_err-2.ensures.cases c.in_ok-outs.was in
    let t = if_ok (λ t. (t.sum ≡ sizes_to b c.in_ok-m.m.end c.in_ok-m.m.number) × (t.at ≡ past b c.in_ok-m.m.end c.in_ok-m.m.number)) c.sizes-2.result c.in_ok-outs.outs c.sizes-2.ensures.summed o in
    let told = outputs_told b k c.in_ok-ins.ins s M.0 (c.sizes-2.ensures.told 11 (omega arith) ∙ ap (sizes_answer 11) o) in
    let q = output_values_lem b in
    let none = ap (λ (a : Answer). a.number) (outputs_decide b k.counts inputs_none all (omega (arith, M.1)) ∙ told) in
    given_value (head_answer b) (head_of b) none
    (λ j. record {
      gates = k.gates_read.number_is j;
      wires = k.wires_read.number_is j;
      inputs = inputs_are b k c.in_ok-ins.ins s j;
      outputs = outputs_are b k c.in_ok-ins.ins s M.0 t.0 j;
      body = body_is b k c.in_ok-ins.ins s M.0 t.1 j;
      limit = c.head_limit.ensures j;
    })
