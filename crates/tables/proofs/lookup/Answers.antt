-- `tables::lookup` meets its contract: the scratch has room for four polynomials and a sample of level 1, and no call is refused after the checks.
-- Assumes nothing.
use mathlib.Core.Path.{sym, ap, ◌∙◌}
use Prim.Native.Nat.{ℕ}
use Rattle.ring.specs.Sums.{tab}
use Rattle.params.specs.Refusal.{answer, outcome}
use Rattle.params.proofs.Answers.{done}
use Rattle.words.proofs.Scratch.{scratch}
use Rattle.gates.proofs.Checks.{checked_same, not_refused, level1_to, level1_lent}
use Rattle.tables.proofs.Checks.{lookup_good, size_to, size_lent, fitting_words}
use Rattle.tables.proofs.Chain.{vector_made, lookup_turned, lookup_extracted, lookup_switched, sample_made, lookup_made}
use Rattle.tables.proofs.lookup.Goals as goal

pub slice_bounds-va-end : goal.slice_bounds-va-end
slice_bounds-va-end c = size_to c.s.invariant

pub slice_bounds-va-end-2 : goal.slice_bounds-va-end-2
slice_bounds-va-end-2 c = sym (scratch 1024 _ (size_to c.s.invariant))

pub slice_bounds-vb-end : goal.slice_bounds-vb-end
slice_bounds-vb-end c = size_to c.s.invariant

pub slice_bounds-vb-end-2 : goal.slice_bounds-vb-end-2
slice_bounds-vb-end-2 c = sym (scratch 1024 _ (size_to c.s.invariant))

pub slice_bounds-ra-end : goal.slice_bounds-ra-end
slice_bounds-ra-end c = size_to c.s.invariant

pub slice_bounds-ra-end-2 : goal.slice_bounds-ra-end-2
slice_bounds-ra-end-2 c = sym (scratch 1024 _ (size_to c.s.invariant))

pub slice_bounds-rb-end : goal.slice_bounds-rb-end
slice_bounds-rb-end c = size_to c.s.invariant

pub slice_bounds-rb-end-2 : goal.slice_bounds-rb-end-2
slice_bounds-rb-end-2 c = sym (scratch 1024 _ (size_to c.s.invariant))

pub slice_bounds-sample-end : goal.slice_bounds-sample-end
slice_bounds-sample-end c = level1_to c.s.invariant

pub slice_bounds-sample-end-2 : goal.slice_bounds-sample-end-2
slice_bounds-sample-end-2 c = sym (scratch 1025 _ (level1_to c.s.invariant))

pub put_vector-requires : goal.put_vector-requires
put_vector-requires c =
    let s = checked_same c.in_ok-s.ensures in
    let k = lookup_good _ _ _ _ _ _ _ s.0 in
    fitting_words c.args.p _ _ _ k.table (size_lent c.s.invariant (c.s.view_is ∙ s.1))

pub returns-in_err-blind_rotate_with_testvec : goal.returns-in_err-blind_rotate_with_testvec
returns-in_err-blind_rotate_with_testvec c =
    let s = checked_same c.in_ok-s.ensures in
    let k = lookup_good _ _ _ _ _ _ _ s.0 in
    let n = size_lent c.s.invariant (c.s.view_is ∙ s.1) in
    let v = c.put_vector.auto in
    absurd (not_refused c.in_err-blind_rotate_with_testvec.ensures.said (lookup_turned c.args.p k (v.a ∙ n) (v.b ∙ n) n n))

pub returns-in_err-sample_extract_index : goal.returns-in_err-sample_extract_index
returns-in_err-sample_extract_index c =
    let s = checked_same c.in_ok-s.ensures in
    let k = lookup_good _ _ _ _ _ _ _ s.0 in
    let n = size_lent c.s.invariant (c.s.view_is ∙ s.1) in
    let l = level1_lent c.s.invariant (c.s.view_is ∙ s.1) in
    let r = c.blind_rotate_with_testvec.auto in
    absurd (not_refused c.in_err-sample_extract_index.ensures.said (lookup_extracted c.args.p k (r.a ∙ n) (r.b ∙ n) l))

pub returns-clause-said : goal.returns-clause-said
returns-clause-said c =
    let s = checked_same c.in_ok-s.ensures in
    let k = lookup_good _ _ _ _ _ _ _ s.0 in
    let l = level1_lent c.s.invariant (c.s.view_is ∙ s.1) in
    c.identity_key_switching.ensures.said ∙ ap (λ (n : ℕ). outcome (answer n)) (lookup_switched c.args.p k (c.sample_extract_index.auto.out ∙ l) ∙ sym s.0)

pub returns-clause-written : goal.returns-clause-written
returns-clause-written c =
    let g = c.args in
    let s = checked_same c.in_ok-s.ensures in
    let k = lookup_good _ _ _ _ _ _ _ s.0 in
    let n = size_lent c.s.invariant (c.s.view_is ∙ s.1) in
    let l = level1_lent c.s.invariant (c.s.view_is ∙ s.1) in
    let v = c.put_vector.ensures in
    let r = c.in_ok-blind_rotate_with_testvec.ensures in
    let e = k.table.good in
    done _ _ _ s.0
    (lookup_made g.p e g.modulus g.table.now g.c.now g.bsk.now k.source k.bootstrapping g.ksk.now g.out.now k.switching k.result
    (sample_made g.p e g.modulus g.table.now g.c.now g.bsk.now k.source k.bootstrapping _ _ _ n n l
    (v.a_after ∙ ap (λ (m : ℕ). tab m (λ i. 0)) n) (vector_made g.p g.table.now n k.table.words v.b_after)
    r.first r.second c.in_ok-sample_extract_index.ensures.written)
    c.identity_key_switching.ensures.written)
