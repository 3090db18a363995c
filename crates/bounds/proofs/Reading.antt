-- A codelist in lent bytes: its rating is that of the codelist of what was read, whose operations are those that were read. Assumes nothing.
use mathlib.Core.Path.{◌≡◌, refl, sym, ap, ◌∙◌}
use mathlib.Core.Bool.{Bool, true, false, cond}
use mathlib.Core.List.{List}
use Rattle.std.specs.Prelude.{Option, Some, None, Result, Ok, Err, is_some}
use Prim.Native.Nat.{ℕ, ◌+◌, ◌-◌}
use native.Mathlib.Omega.{arith}
use lib.IntN.{ℤ}
use lib.ListN.{get_or}
use Rattle.codelist.specs.declared.Codelist.{Codelist}
use Rattle.codelist.specs.declared.Op.{Op}
use Rattle.codelist.specs.Codelist.{blank, WellFormedOp, well_formed_op, ratable}
use Rattle.codelist.specs.Load.{empty}
use Rattle.codelist.proofs.WellFormed.{op-sound}
use Rattle.codelist.proofs.Ratable as W
use Rattle.encoding.specs.declared.Front.{Front}
use Rattle.encoding.specs.Decode.{head_of, op_at, lent_codelist, holds_codelist}
use Rattle.encoding.proofs.Entries.{op_or, entry-tested, Lent, lent, lent_is, lent-known, none_lent}
use Rattle.encoding.proofs.Sequences.{found}
use Rattle.rules.specs.declared.Limits.{Limits}
use Rattle.rules.specs.declared.Refusal.{Refusal}
use Rattle.rules.specs.declared.Refusal.TheVariants.{NoCodelist}
use Rattle.rules.specs.InFull.{Rating}
use Rattle.rules.specs.Rate.{rated, refused, rate_of}
use Rattle.bounds.specs.Answer.{Counted, IsOf, Lies, if_well_formed, in_order}
use Rattle.bounds.proofs.Answers.{no-codelist}

none-ratable : ratable empty ≡ false
unfolding ratable empty
none-ratable = refl

pub none-rated : (xs : List ℤ) → refused NoCodelist ≡ rate_of empty xs
none-rated xs = no-codelist empty xs none-ratable

-- bytes without a head hold none
pub no-front : (b : List ℕ) (xs : List ℤ) → head_of b ≡ None → refused NoCodelist ≡ rate_of (lent_codelist b) xs
no-front b xs e = none-rated xs ∙ ap (λ (d : Codelist). rate_of d xs) (sym (none_lent b e))

-- the answer in full, where a refusal comes first only if the bytes hold a codelist
abbrev pub in_held : List ℕ → Result Limits Refusal → Rating
in_held b (Ok l) = rated l
in_held b (Err r) = cond (holds_codelist b) (refused r) (refused NoCodelist)

module _ (b : List ℕ) (h : Front) (p : head_of b ≡ Some h) where
  known : Lent b h (lent b h p)
  known = lent-known b h p

  pub lent-counted : Counted h
  lent-counted =
      let n = W.counts (lent b h p) known.fits in
      record {
        factors = (omega (arith, n.factors.0, known.factors), omega (arith, n.factors.1, known.factors));
        some = omega (arith, n.some, known.count);
        few = omega (arith, n.few, known.factors, known.count);
      }

  pub lent-well : (k : ℕ) (o : Op) → op_at b (k - h.factors) k ≡ Some o → WellFormedOp k o
  lent-well k o e = op-sound k o (found b (k - h.factors) k o e).tested

  -- what is read is the operation, if it is well formed
  read : (k : ℕ) → IsOf k h → op_at b (k - h.factors) k ≡ if_well_formed k (get_or (lent b h p).ops (k - h.factors) blank).op
  read k i =
      let there : h.factors + (k - h.factors) ≡ k = omega arith in
      let op = known.op (k - h.factors) blank (omega arith) ∙ ap (λ (e : ℕ). op_or (op_at b (k - h.factors) e)) there in
      go (op_at b (k - h.factors) k) (entry-tested b (k - h.factors) k) ∙ ap (if_well_formed k) (sym op)
    where
      go : (r : Option Op) → well_formed_op k (op_or r) ≡ is_some r → r ≡ if_well_formed k (op_or r)
      go (Some o) e = rw e refl
      go None e = refl

  pub lent-lies : (gives : ℕ → Option Op → Type 0) → ((k : ℕ) (o : Option Op) → IsOf k h → gives k o → o ≡ op_at b (k - h.factors) k)
      → Lies (lent b h p) h gives
  lent-lies gives f = record {
    factors = known.factors;
    count = known.count;
    year = known.year;
    array = known.array;
    op = λ k o i g. f k o i g ∙ read k i;
  }

  -- its rating is that of the codelist that the bytes hold
  lent-rate : (xs : List ℤ) → rate_of (lent b h p) xs ≡ rate_of (lent_codelist b) xs
  lent-rate xs = go (holds_codelist b) refl
    where
      go : (t : Bool) → holds_codelist b ≡ t → rate_of (lent b h p) xs ≡ rate_of (lent_codelist b) xs
      go true e = rw (lent_is b h p, e) refl
      go false e = sym (no-codelist (lent b h p) xs (known.held ∙ e)) ∙ rw (lent_is b h p, e) (none-rated xs)

  pub lent-answer : (xs : List ℤ) (r : Result Limits Refusal) → in_order (lent b h p) r ≡ rate_of (lent b h p) xs → in_held b r ≡ rate_of (lent_codelist b) xs
  lent-answer xs (Ok l) e = e ∙ lent-rate xs
  lent-answer xs (Err r) e = ap (λ (t : Bool). cond t (refused r) (refused NoCodelist)) (sym known.held) ∙ e ∙ lent-rate xs
