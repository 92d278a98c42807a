-- `ways::ciphertext` meets its contract: cut at the end of the slice, the part from w (n + 1) on.
-- Assumes nothing.
use mathlib.Core.Path.{ap}
use Prim.Native.Nat.{ℕ, ◌+◌, ◌-◌, ◌≤◌}
use native.Mathlib.Omega.{arith}
use lib.ListN.{length}
use Rattle.ways.proofs.Ciphers.{lesser_second, cut}
use Rattle.ways.proofs.ciphertext.Goals as goal

-- the part begins within the slice, and ends there
pub overflow_sub-ws : goal.overflow_sub-ws
overflow_sub-ws c = rw c.place-from.ensures (lesser_second _ (length c.args.ws.now))

pub overflow_add-to : goal.overflow_add-to
overflow_add-to c =
    let begins : c.place-from.result ≤ length c.args.ws.now =
    rw c.place-from.ensures (lesser_second _ (length c.args.ws.now))
    in
    let ends : c.place-from.result + c.less.result ≤ length c.args.ws.now =
    let b = begins in
    let e = c.less.ensures in
    let l = lesser_second (c.args.p.n + 1) (length c.args.ws.now - c.place-from.result) in
    omega (arith, b, e, l)
    in
    omega (arith, ends)

pub offset_bounds-ws-from : goal.offset_bounds-ws-from
offset_bounds-ws-from c =
    let begins : c.place-from.result ≤ length c.args.ws.now =
    rw c.place-from.ensures (lesser_second _ (length c.args.ws.now))
    in
    let ends : c.place-from.result + c.less.result ≤ length c.args.ws.now =
    let b = begins in
    let e = c.less.ensures in
    let l = lesser_second (c.args.p.n + 1) (length c.args.ws.now - c.place-from.result) in
    omega (arith, b, e, l)
    in
    omega (arith, ends)

pub slice_bounds-result-end : goal.slice_bounds-result-end
slice_bounds-result-end c =
    let begins : c.place-from.result ≤ length c.args.ws.now =
    rw c.place-from.ensures (lesser_second _ (length c.args.ws.now))
    in
    let ends : c.place-from.result + c.less.result ≤ length c.args.ws.now =
    let b = begins in
    let e = c.less.ensures in
    let l = lesser_second (c.args.p.n + 1) (length c.args.ws.now - c.place-from.result) in
    omega (arith, b, e, l)
    in
    omega (arith, ends)

pub returns : goal.returns
returns c =
    let g = c.args in
    cut g.p g.ws.now g.w c.place-from.ensures (ap (λ (k : ℕ). c.place-from.result + k) c.less.ensures)
