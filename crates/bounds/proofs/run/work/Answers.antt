-- `bounds::run::work` meets its contract. Assumes nothing.
use mathlib.Core.Path.{◌≡◌, sym, subst}
use borrow.Author.Rules.{rules}
use mathlib.Core.List.{List}
use Prim.Native.Nat.{ℕ, ◌-◌, ◌<◌, ◌≤◌}
use native.Mathlib.Nat as N
use Rattle.codelist.specs.declared.Op.{Op}
use Rattle.codelist.specs.Codelist.{Earlier, WellFormedOp}
use Rattle.codelist.proofs.Laws.{back}
use Rattle.rules.specs.declared.Line.{Line}
use Rattle.rules.specs.Table.{add_row, addc_row, mulc_row, mul_row, pow_row, inv_row}
use Rattle.rules.specs.Run.{row_of}
use Rattle.std.specs.Prelude.{Option}
use Rattle.range.specs.declared.Range.{Range}
use Rattle.bounds.specs.declared.table.Table.{Table}
use Rattle.bounds.specs.Table.{Refers, lines_up_to, Blank, Ready, Worked}
use Rattle.bounds.proofs.Running as R
use Rattle.bounds.proofs.run.work.Goals as goal

-- what an arm of the match knows of its operation q
module _ {k : ℕ} {t : Table} {o : Op} (f : WellFormedOp k o) (ready : Ready t k) (k_bound : k < 64) (q : Op) (e : o ≡ q) where
  well : WellFormedOp k q
  well = subst (WellFormedOp _) e f

  indexed : (j : ℕ) → Earlier k j → (1 ≤ j) × (j ≤ 64)
  indexed j r = R.indexed k j k_bound r

  refers : (j i : ℕ) → Earlier k j → i ≡ j - 1 → Refers t i k
  refers j i r g = R.refers _ _ ready j i r g

  -- the row of q is that of the operation
  worked : (r : Option (List Range)) (u : Table)
      → Worked (row_of q (lines_up_to t k)) t k r u
      → Worked (row_of o (lines_up_to t k)) t k r u
  worked r u =
      subst
      (λ (p : Op). Worked (row_of p (lines_up_to t k)) t k r u)
      (sym e)

pub index-requires : goal.index-requires
index-requires c = indexed c.requires.well_formed_op c.requires.ready c.requires.k_bound _ c.in-Add.is _ (well c.requires.well_formed_op c.requires.ready c.requires.k_bound _ c.in-Add.is).0

pub index-requires-in-Add : goal.index-requires-in-Add
index-requires-in-Add c = indexed c.requires.well_formed_op c.requires.ready c.requires.k_bound _ c.in-Add.is _ (well c.requires.well_formed_op c.requires.ready c.requires.k_bound _ c.in-Add.is).1

pub add-requires : goal.add-requires
add-requires c =
    let bare : Blank c.args.t.now c.args.k = c.requires.ready.blank c.args.k (N.le_refl _) in
    let e = c.in-Add.is in
    let w = well c.requires.well_formed_op c.requires.ready c.requires.k_bound _ e in
    record { k_bound = c.requires.k_bound; blank = bare; refers = refers c.requires.well_formed_op c.requires.ready c.requires.k_bound _ e _ _ w.0 c.index.ensures.0; refers_2 = refers c.requires.well_formed_op c.requires.ready c.requires.k_bound _ e _ _ w.1 c.index-in-Add.ensures.0 }

pub index-requires-in-Mul : goal.index-requires-in-Mul
index-requires-in-Mul c = indexed c.requires.well_formed_op c.requires.ready c.requires.k_bound _ c.in-Mul.is _ (well c.requires.well_formed_op c.requires.ready c.requires.k_bound _ c.in-Mul.is).0

pub index-requires-in-Mul-2 : goal.index-requires-in-Mul-2
index-requires-in-Mul-2 c = indexed c.requires.well_formed_op c.requires.ready c.requires.k_bound _ c.in-Mul.is _ (well c.requires.well_formed_op c.requires.ready c.requires.k_bound _ c.in-Mul.is).1

pub mul-requires : goal.mul-requires
mul-requires c =
    let bare : Blank c.args.t.now c.args.k = c.requires.ready.blank c.args.k (N.le_refl _) in
    let e = c.in-Mul.is in
    let w = well c.requires.well_formed_op c.requires.ready c.requires.k_bound _ e in
    record { k_bound = c.requires.k_bound; blank = bare; refers = refers c.requires.well_formed_op c.requires.ready c.requires.k_bound _ e _ _ w.0 c.index-in-Mul.ensures.0; refers_2 = refers c.requires.well_formed_op c.requires.ready c.requires.k_bound _ e _ _ w.1 c.index-in-Mul-2.ensures.0 }

pub index-requires-in-AddC : goal.index-requires-in-AddC
index-requires-in-AddC c = indexed c.requires.well_formed_op c.requires.ready c.requires.k_bound _ c.in-AddC.is _ (well c.requires.well_formed_op c.requires.ready c.requires.k_bound _ c.in-AddC.is).0

pub addc-requires : goal.addc-requires
addc-requires c =
    let bare : Blank c.args.t.now c.args.k = c.requires.ready.blank c.args.k (N.le_refl _) in
    let e = c.in-AddC.is in
    let w = well c.requires.well_formed_op c.requires.ready c.requires.k_bound _ e in
    record { k_bound = c.requires.k_bound; blank = bare; refers = refers c.requires.well_formed_op c.requires.ready c.requires.k_bound _ e _ _ w.0 c.index-in-AddC.ensures.0; c_bound = rw (back c.in-AddC.c (search rules)) w.1 }

pub index-requires-in-MulC : goal.index-requires-in-MulC
index-requires-in-MulC c = indexed c.requires.well_formed_op c.requires.ready c.requires.k_bound _ c.in-MulC.is _ (well c.requires.well_formed_op c.requires.ready c.requires.k_bound _ c.in-MulC.is).0

pub mulc-requires : goal.mulc-requires
mulc-requires c =
    let bare : Blank c.args.t.now c.args.k = c.requires.ready.blank c.args.k (N.le_refl _) in
    let e = c.in-MulC.is in
    let w = well c.requires.well_formed_op c.requires.ready c.requires.k_bound _ e in
    record { k_bound = c.requires.k_bound; blank = bare; refers = refers c.requires.well_formed_op c.requires.ready c.requires.k_bound _ e _ _ w.0 c.index-in-MulC.ensures.0; c_bound = rw (back c.in-MulC.c (search rules)) w.1 }

pub index-requires-in-Pow : goal.index-requires-in-Pow
index-requires-in-Pow c = indexed c.requires.well_formed_op c.requires.ready c.requires.k_bound _ c.in-Pow.is _ (well c.requires.well_formed_op c.requires.ready c.requires.k_bound _ c.in-Pow.is).0

pub pow-requires : goal.pow-requires
pow-requires c =
    let bare : Blank c.args.t.now c.args.k = c.requires.ready.blank c.args.k (N.le_refl _) in
    let e = c.in-Pow.is in
    let w = well c.requires.well_formed_op c.requires.ready c.requires.k_bound _ e in
    record { k_bound = c.requires.k_bound; blank = bare; refers = refers c.requires.well_formed_op c.requires.ready c.requires.k_bound _ e _ _ w.0 c.index-in-Pow.ensures.0; le_m = w.1.0 }

pub index-requires-in-Inv : goal.index-requires-in-Inv
index-requires-in-Inv c = indexed c.requires.well_formed_op c.requires.ready c.requires.k_bound _ c.in-Inv.is _ (well c.requires.well_formed_op c.requires.ready c.requires.k_bound _ c.in-Inv.is)

pub inv-requires : goal.inv-requires
inv-requires c =
    let bare : Blank c.args.t.now c.args.k = c.requires.ready.blank c.args.k (N.le_refl _) in
    let e = c.in-Inv.is in
    let w = well c.requires.well_formed_op c.requires.ready c.requires.k_bound _ e in
    record { k_bound = c.requires.k_bound; blank = bare; refers = refers c.requires.well_formed_op c.requires.ready c.requires.k_bound _ e _ _ w c.index-in-Inv.ensures.0 }

pub returns-in-Add : goal.returns-in-Add
unfolding row_of
returns-in-Add c =
    let e = c.in-Add.is in
    worked c.requires.well_formed_op c.requires.ready c.requires.k_bound _ e _ _
    (R.worked-of-two add_row _ _ _ _ (well c.requires.well_formed_op c.requires.ready c.requires.k_bound _ e) c.index.ensures.0 c.index-in-Add.ensures.0 c.add.ensures)

pub returns-in-Mul : goal.returns-in-Mul
unfolding row_of
returns-in-Mul c =
    let e = c.in-Mul.is in
    worked c.requires.well_formed_op c.requires.ready c.requires.k_bound _ e _ _
    (R.worked-of-two mul_row _ _ _ _ (well c.requires.well_formed_op c.requires.ready c.requires.k_bound _ e) c.index-in-Mul.ensures.0 c.index-in-Mul-2.ensures.0 c.mul.ensures)

pub returns-in-AddC : goal.returns-in-AddC
unfolding row_of
returns-in-AddC c =
    let e = c.in-AddC.is in
    worked c.requires.well_formed_op c.requires.ready c.requires.k_bound _ e _ _ (R.worked-of addc_row _ _ _ (well c.requires.well_formed_op c.requires.ready c.requires.k_bound _ e).0 c.index-in-AddC.ensures.0 (rw (back c.in-AddC.c (search rules)) at c.addc.ensures))

pub returns-in-MulC : goal.returns-in-MulC
unfolding row_of
returns-in-MulC c =
    let e = c.in-MulC.is in
    worked c.requires.well_formed_op c.requires.ready c.requires.k_bound _ e _ _ (R.worked-of mulc_row _ _ _ (well c.requires.well_formed_op c.requires.ready c.requires.k_bound _ e).0 c.index-in-MulC.ensures.0 (rw (back c.in-MulC.c (search rules)) at c.mulc.ensures))

pub returns-in-Pow : goal.returns-in-Pow
unfolding row_of
returns-in-Pow c =
    let e = c.in-Pow.is in
    worked c.requires.well_formed_op c.requires.ready c.requires.k_bound _ e _ _ (R.worked-of pow_row _ _ _ (well c.requires.well_formed_op c.requires.ready c.requires.k_bound _ e).0 c.index-in-Pow.ensures.0 c.pow.ensures)

pub returns-in-Inv : goal.returns-in-Inv
unfolding row_of
returns-in-Inv c =
    let e = c.in-Inv.is in
    worked c.requires.well_formed_op c.requires.ready c.requires.k_bound _ e _ _ (R.worked-of {A = Unit} (λ (x : Line) (a : Unit). inv_row x) tt _ _ (well c.requires.well_formed_op c.requires.ready c.requires.k_bound _ e) c.index-in-Inv.ensures.0 c.inv.ensures)
