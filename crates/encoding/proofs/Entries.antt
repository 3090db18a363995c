-- The operations as a reader of one after another meets them: an entry for each, a blank where there is none. So a codelist is there before
-- it is known whether the bytes are one's, and it is ratable exactly where they are.
use Prim.Native.Nat.{ℕ, suc, zero, ◌+◌, ◌-◌, ◌<◌}
use mathlib.Core.Bool.{Bool, true, false, cond, ◌&&◌}
use mathlib.Core.List.{List, [], ◌∷◌}
use mathlib.Core.Option
use mathlib.Core.Option.{none, some}
use mathlib.Core.Path.{◌≡◌, refl, sym, ap, ◌∙◌}
use native.Mathlib.Nat.{zero-add}
use native.Mathlib.Omega.{arith}
use lib.ListN.{length, get_or, replicate, length-append, length-replicate, get_or-append}
use lib.Seq.{take-append_seam}
use Rattle.std.specs.Option.{is_some}
use Rattle.std.specs.declared.option.Option as read
use Rattle.std.specs.declared.option.Option.TheVariants.{Some, None}
use Rattle.codelist.specs.declared.Codelist.{Codelist}
use Rattle.codelist.specs.declared.Entry.{Entry}
use Rattle.codelist.specs.declared.Op.{Op}
use Rattle.codelist.specs.declared.Op.TheVariants.{Inv}
use Rattle.codelist.specs.Codelist.{blank, well_formed_op, well_formed_ops, in_bounds, ratable}
use Rattle.codelist.specs.Load.{empty, codelist_of}
use Rattle.codelist.proofs.Ratable.{by-operations}
use Rattle.encoding.specs.declared.Front.{Front}
use Rattle.encoding.specs.Decode.{counts_fit, op_at, on_op, before, ops_from, are_ops, head_of, holding, decoded, lent_codelist, held, holds_codelist}
use Rattle.encoding.proofs.Heads.{head-sound}
use Rattle.encoding.proofs.Sequences.{found}

abbrev pub op_or : read.Option Op → Op
op_or (Some o) = o
op_or None = Inv 0

unfoldable pub entries : List ℕ → ℕ → ℕ → ℕ → List Entry
entries b e k zero = []
entries b e k (suc m) = record { op = op_or (op_at b k e) } ∷ entries b (e + 1) (k + 1) m

entries-length : (b : List ℕ) (e k m : ℕ) → length (entries b e k m) ≡ m
unfolding entries
entries-length b e k zero = refl
entries-length b e k (suc m) = ap suc (entries-length b (e + 1) (k + 1) m)

entry_at : (b : List ℕ) (e k m j : ℕ) (d : Entry) → j < m → (get_or (entries b e k m) j d).op ≡ op_or (op_at b (k + j) (e + j))
unfolding entries
entry_at b e k zero j d h = absurd (omega arith)
entry_at b e k (suc m) zero d h =
    let p : k ≡ k + 0 = omega arith in
    let q : e ≡ e + 0 = omega arith in
    ap (λ (n : ℕ). op_or (op_at b n e)) p ∙ ap (λ (n : ℕ). op_or (op_at b (k + 0) n)) q
entry_at b e k (suc m) (suc j) d h =
    let p : k + 1 + j ≡ k + suc j = omega arith in
    let q : e + 1 + j ≡ e + suc j = omega arith in
    entry_at b (e + 1) (k + 1) m j d (omega arith)
    ∙ ap (λ (n : ℕ). op_or (op_at b n (e + 1 + j))) p ∙ ap (λ (n : ℕ). op_or (op_at b (k + suc j) n)) q

-- An entry is well formed exactly where there is an operation
pub entry-tested : (b : List ℕ) (k e : ℕ) → well_formed_op e (op_or (op_at b k e)) ≡ is_some (op_at b k e)
entry-tested b k e = go (op_at b k e) refl
  where
    go : (r : read.Option Op) → op_at b k e ≡ r → well_formed_op e (op_or r) ≡ is_some r
    go (Some o) p = (found b k e o p).tested
    go None p = refl

entries-tested : (b : List ℕ) (e k m : ℕ) → well_formed_ops e (entries b e k m) ≡ are_ops b e k m
unfolding entries are_ops well_formed_ops
entries-tested b e k zero = refl
entries-tested b e k (suc m) = rw (entry-tested b k e, entries-tested b (e + 1) (k + 1) m)

-- So the operations are read exactly where all entries are well formed
sequence-is : (b : List ℕ) (e k m : ℕ) → ops_from b e k m ≡ cond (are_ops b e k m) (some (entries b e k m)) none
unfolding ops_from are_ops entries
sequence-is b e k zero = refl
sequence-is b e k (suc m) = rw (sequence-is b (e + 1) (k + 1) m) (go (op_at b k e) (are_ops b (e + 1) (k + 1) m))
  where
    go : (r : read.Option Op) (t : Bool) → on_op r (λ o. before o (cond t (some (entries b (e + 1) (k + 1) m)) none))
        ≡ cond (is_some r && t) (some (record { op = op_or r } ∷ entries b (e + 1) (k + 1) m)) none
    go (Some o) true = refl
    go (Some o) false = refl
    go None t = refl

-- What a reader knows of the codelist c of what was read: it can be rated exactly where the bytes hold a codelist
pub record Lent (b : List ℕ) (h : Front) (c : Codelist) : Type 0 where
  pub factors : c.factors ≡ h.factors
  pub count : c.count ≡ h.count
  pub year : c.year ≡ h.year
  pub fits : in_bounds c ≡ true
  pub array : length c.ops ≡ 64
  pub op : (j : ℕ) (d : Entry) → j < h.count → (get_or c.ops j d).op ≡ op_or (op_at b j (h.factors + j))
  pub held : ratable c ≡ holds_codelist b

-- The codelist of what was read
module _ (b : List ℕ) (h : Front) (p : head_of b ≡ Some h) where
  pub lent : Codelist
  lent = codelist_of h.year h.factors (entries b h.factors 0 h.count)

  decoded-is : decoded b ≡ cond (are_ops b h.factors 0 h.count) (some lent) none
  unfolding decoded lent
  decoded-is = rw (p, sequence-is b h.factors 0 h.count) (go (are_ops b h.factors 0 h.count))
    where
      go : (t : Bool) → holding h.year h.factors (cond t (some (entries b h.factors 0 h.count)) none) ≡ cond t (some lent) none
      go true = refl
      go false = refl

  -- the bytes hold a codelist where its operations are well formed
  pub held-is : holds_codelist b ≡ are_ops b h.factors 0 h.count
  unfolding holds_codelist
  held-is = rw decoded-is (go (are_ops b h.factors 0 h.count))
    where
      go : (t : Bool) → held (cond t (some lent) none) ≡ t
      go true = refl
      go false = refl

  -- and it is this one
  pub lent_is : lent_codelist b ≡ cond (holds_codelist b) lent empty
  unfolding lent_codelist
  lent_is = rw (decoded-is, held-is) (go (are_ops b h.factors 0 h.count))
    where
      go : (t : Bool) → Option.get_or (cond t (some lent) none) empty ≡ cond t lent empty
      go true = refl
      go false = refl

  pub lent-known : Lent b h lent
  unfolding lent codelist_of
  lent-known =
      let xs = entries b h.factors 0 h.count in
      let blanks = replicate (64 - length xs) blank in
      let many = entries-length b h.factors 0 h.count in
      let z : length blanks ≡ 64 - length xs = length-replicate (64 - length xs) blank in
      let front = head-sound b h p in
      let few = front.counted.few in
      let fits = ap (counts_fit h.factors) many ∙ front.fit in
      let long : length lent.ops ≡ 64 = omega (arith, length-append xs blanks, few) in
      record {
        factors = refl;
        count = many;
        year = refl;
        fits = fits;
        array = long;
        op = λ j d g. ap (λ (x : Entry). x.op) (get_or-append xs blanks d j (omega arith)) ∙ entry_at b h.factors 0 h.count j d g
            ∙ ap (λ (k : ℕ). op_or (op_at b k (h.factors + j))) (zero-add j);
        held = sym (by-operations lent fits long) ∙ ap (well_formed_ops h.factors) (take-append_seam xs blanks) ∙ entries-tested b h.factors 0 h.count ∙ sym held-is;
      }

-- Bytes with no head hold none
pub none-held : (b : List ℕ) → head_of b ≡ None → holds_codelist b ≡ false
unfolding holds_codelist decoded
none-held b h = rw h

pub none_lent : (b : List ℕ) → head_of b ≡ None → lent_codelist b ≡ empty
unfolding lent_codelist decoded
none_lent b h = rw h
