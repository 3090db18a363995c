-- `store` meets its contract: the bytes are the head, the operations stored as yet, and zeros.
use Prim.Native.Nat.{ℕ, ◌≤◌, ◌<◌}
use mathlib.Core.List.{List}
use mathlib.Core.Path.{◌≡◌, ap, subst, ◌∙◌}
use native.Mathlib.Omega.{arith}
use borrow.Author.Rules.{rules}
use lib.ListN.{length, set, take, replicate}
use lib.Seq.{get_or-take}
use Rattle.codelist.specs.declared.Codelist.{Codelist}
use Rattle.codelist.specs.declared.Entry.{Entry}
use Rattle.codelist.specs.Codelist.{WellFormed}
use Rattle.codelist.proofs.Ratable.{taken, well-formed-ratable}
use Rattle.encoding.specs.Encode.{year_byte, encoded}
use Rattle.encoding.specs.Views.{Small}
use Rattle.encoding.proofs.Storing.{stored, stored-none, stored_more, small_at}
use Rattle.encoding.proofs.store.Goals as goal

-- What a well formed codelist has: room for its operations
room : (c : Codelist) → WellFormed c → (length c.ops ≡ 64) × (c.count ≤ 63)
room c w = ((well-formed-ratable w).array, omega (arith, w.few, w.factors.0))

cleared : (s : List ℕ) (n : ℕ) → s ≡ replicate n 0 → n ≡ 512 → s ≡ replicate 512 0
cleared s n h e = h ∙ ap (λ (n : ℕ). replicate n 0) e

pub op_bytes-requires : goal.op_bytes-requires
op_bytes-requires c =
    let a = c.args.c.now in
    let w = c.requires.well_formed in
    let h : c.loop-k.k < a.count = omega (arith, c.loop-k-test.true) in
    subst (λ (x : Entry). Small x.op) (get_or-take a.count a.ops c.loop-k.k _ h)
    (small_at a.factors (take a.count a.ops) c.loop-k.k _ w.each (omega (arith, taken a (well-formed-ratable w))))

pub loop-k-init : goal.loop-k-init
loop-k-init c =
    let a = c.args.c.now in
    ap (λ (t : List ℕ). set (set (set t 0 a.factors) 1 a.count) 2 c.year_byte.result) (cleared _ _ (c.fill.ensures.after (search rules)) c.requires.state_len)
    ∙ ap (set (set (set (replicate 512 0) 0 a.factors) 1 a.count) 2) c.year_byte.ensures
    ∙ stored-none a.factors a.count (year_byte a.year) a.ops

pub loop-k-preserved : goal.loop-k-preserved
loop-k-preserved c =
    let a = c.args.c.now in
    let r = room a c.requires.well_formed in
    let l : c.loop-k.k < a.count = omega (arith, c.loop-k-test.true) in
    rw (c.copy_from_slice.ensures.after, c.op_bytes.ensures, c.loop-k.invariant) (stored_more a.factors a.count (year_byte a.year) a.ops c.loop-k.k _ (omega arith) (omega arith))

pub returns : goal.returns
unfolding encoded
returns c =
    let a = c.args.c.now in
    let e : c.loop-k.k ≡ a.count = omega (arith, c.loop-k-test.false, c.loop-k.auto.k-end) in
    c.loop-k.invariant ∙ ap (stored a.factors a.count (year_byte a.year) a.ops) e
