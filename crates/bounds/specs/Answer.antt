-- The answer of a run that tests each operation of a codelist just before its line is worked out, wherever the operations lie.
use Rattle.std.specs.Prelude.{◌≡◌, cond, ℕ, ◌+◌, ◌-◌, ◌≤◌, ◌<◌, length, get_or, Option, Some, None, Result, Ok, Err}
use Rattle.codelist.specs.declared.Codelist.{Codelist}
use Rattle.codelist.specs.declared.Op.{Op}
use Rattle.codelist.specs.Codelist.{blank, well_formed_op, ratable}
use Rattle.encoding.specs.declared.Front.{Front}
use Rattle.rules.specs.declared.Limits.{Limits}
use Rattle.rules.specs.declared.Refusal.{Refusal}
use Rattle.rules.specs.declared.Refusal.TheVariants.{NoCodelist}
use Rattle.rules.specs.InFull.{Rating}
use Rattle.rules.specs.Rate.{rated, refused}

-- An operation, if it is well formed as that of the line k, counted from 0.
abbrev pub if_well_formed : ℕ → Op → Option Op
if_well_formed k o = cond (well_formed_op k o) (Some o) None

-- The counts at the front of a codelist are those of one that can be rated.
pub record Counted (f : Front) : Type 0 where
  pub factors : (1 ≤ f.factors) × (f.factors ≤ 8)
  pub some : 1 ≤ f.count
  pub few : f.factors + f.count ≤ 64

-- The line k, counted from 0, is that of an operation.
abbrev pub IsOf : ℕ → Front → Type 0
IsOf k f = (f.factors ≤ k) × (k < f.factors + f.count)

-- The codelist c has this front, and whatever `gives` has for the line k is its operation, if that is well formed.
pub record Lies (c : Codelist) (f : Front) (gives : ℕ → Option Op → Type 0) : Type 0 where
  pub factors : c.factors ≡ f.factors
  pub count : c.count ≡ f.count
  pub year : c.year ≡ f.year
  pub array : length c.ops ≡ 64
  pub op : (k : ℕ) (o : Option Op) → IsOf k f → gives k o → o ≡ if_well_formed k (get_or c.ops (k - f.factors) blank).op

-- The answer in full, where a refusal comes first only if the codelist can be rated.
abbrev pub in_order : Codelist → Result Limits Refusal → Rating
in_order c (Ok l) = rated l
in_order c (Err r) = cond (ratable c) (refused r) (refused NoCodelist)
