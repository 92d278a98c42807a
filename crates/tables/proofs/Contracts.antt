-- The routines of tables, of calls: what each tells and leaves on every input, by its contract as `rattle` reads that from the code (the laws ending in -tells, by computation), so that a contract
-- which is changed together with its code is refused here.
-- Assumes nothing.
use mathlib.Core.Path.{◌≡◌}
use lib.ListN.{length}
use contract.Lifetimes.{Lfts}
use denote.Triple.Entry.{Args, Res}
use denote.Triple.Clauses.{Lasts, at_exit}
use Rattle.params.specs.Refusal.{answer, outcome, if_done}
use Rattle.blind_rotation.proofs.Steps.{pair}
use Rattle.tables.specs.Table.{is_table, table_pair, looked_up}
use Rattle.tables.specs.Refusals.{table_number, lookup_number}
use Rattle.tables.proofs.fits as fits
use Rattle.tables.specs.contracts.fits as fits_c
use Rattle.tables.proofs.table_testvec as vector
use Rattle.tables.specs.contracts.table_testvec as vector_c
use Rattle.tables.proofs.lookup as looking
use Rattle.tables.specs.contracts.lookup as looking_c

pub fits_tells : (κs : Lfts (fits_c.ended).signature.lifetimes) (a : Args (fits_c.ended).signature κs) (x : Res (fits_c.ended).signature κs) (v : Lasts fits_c.ended κs a)
    → fits.Reads.Learnt κs a x (at_exit fits_c.ended κs a v) → x ≡ is_table a.0 a.1.0
fits_tells κs a x v h = h

pub vector_tells : (κs : Lfts (vector_c.ended).signature.lifetimes) (a : Args (vector_c.ended).signature κs) (x : Res (vector_c.ended).signature κs) (v : Lasts vector_c.ended κs a)
    → vector.Reads.Learnt κs a x (at_exit vector_c.ended κs a v)
    → let p = a.0 in let m = a.1.0 in let f = a.1.1.0.now in let oa = a.1.1.1.0.now in let ob = a.1.1.1.1.0.now in
    let number = table_number p m (length f) (length oa) (length ob) in
    let out = if_done number (table_pair p m f) (pair oa ob) in (x ≡ outcome (answer number)) × (v.1.1.1.0 ≡ out.a) × (v.1.1.1.1.0 ≡ out.b)
vector_tells κs a x v h = (h.0, h.1.0, h.1.1)

pub lookup_tells : (κs : Lfts (looking_c.ended).signature.lifetimes) (a : Args (looking_c.ended).signature κs) (x : Res (looking_c.ended).signature κs) (v : Lasts looking_c.ended κs a)
    → looking.Reads.Learnt κs a x (at_exit looking_c.ended κs a v)
    → let p = a.0 in let m = a.1.0 in let f = a.1.1.0.now in let c = a.1.1.1.0.now in let ksk = a.1.1.1.1.0.now in let bsk = a.1.1.1.1.1.0.now in let o = a.1.1.1.1.1.1.0.now in
    let number = lookup_number p m (length f) (length c) (length ksk) (length bsk) (length o) in (x ≡ outcome (answer number)) × (v.1.1.1.1.1.1.0 ≡ if_done number (looked_up p m f ksk bsk c) o)
lookup_tells κs a x v h = h
