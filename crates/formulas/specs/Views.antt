-- For contracts of private functions: what stands in a sheet that is being written, what a line more adds to it, and what the readers find.
use Rattle.std.specs.Prelude.{ℕ, ◌+◌, ◌-◌, ◌*◌, ◌^◌, ◌≤◌, ◌<◌, List, [], ◌≡◌, length}
use Rattle.std.proofs.Math.Option.{Option, none, some}
use Rattle.std.specs.declared.option.Option.{Option as Maybe}
use Rattle.std.specs.declared.option.Option.TheVariants.{Some, None}
use Rattle.std.specs.Borrow.{Bor}
use Rattle.std.specs.declared.result.Result.{Result}
use Rattle.std.specs.declared.result.Result.TheVariants.{Ok, Err}
use Rattle.codelist.specs.Text.{TextLine, absent, first_text}
use Rattle.codelist.specs.Write.{plain}
use Rattle.codelist.specs.Read.{peek, rest, digit}
use Rattle.writer.specs.Lent.{Lent, put_text}
use Rattle.formulas.specs.declared.Refusal.{Refusal}
use Rattle.formulas.specs.declared.lines.Operand as code
use Rattle.formulas.specs.declared.lines.Sign as sign
use Rattle.formulas.specs.declared.lines.Sheet.{Sheet}
use Rattle.formulas.specs.declared.reader.Run.{Run}
use Rattle.formulas.specs.declared.reader.Rank as rank
use Rattle.formulas.specs.Grammar.{Tree, constant, longest, Sign, plus, minus, times, over}
use Rattle.formulas.specs.Units.{number_from, units_of}
use Rattle.formulas.specs.Convert.{Operand, fixed, line, Conversion, operand, mixed, convert, joined, raised, lines_text}
use Rattle.formulas.specs.Read.{Found, good, stuck, digits_up_to, constant_at, leaf_at, powered_at, product_at, sum_at, product_sign, sum_sign, Parsed, tree, fault}
use Rattle.formulas.specs.Load.{Given, given, refused}
use Rattle.formulas.specs.Answer.{in_bytes}

-- ════ the code's signs and operands ════

abbrev pub sign_of : sign.Sign → Sign
sign_of sign.TheVariants.Plus = plus
sign_of sign.TheVariants.Minus = minus
sign_of sign.TheVariants.Times = times
sign_of sign.TheVariants.Over = over

abbrev pub of_sign : Maybe sign.Sign → Option Sign
of_sign (Some o) = some (sign_of o)
of_sign None = none

abbrev pub operand_of : code.Operand → Operand
operand_of (code.TheVariants.Fixed c) = fixed c
operand_of (code.TheVariants.Line i) = line i

abbrev pub number : Operand → ℕ
number (fixed c) = c
number (line i) = i

-- its number, where there is one, has at most ten digits
abbrev pub Short : Maybe code.Operand → Type 0
Short (Some x) = number (operand_of x) < 10 ^ 10
Short None = Unit

-- ════ the sheet ════

-- The number of the codelist line after those that were written
abbrev pub next : Sheet → ℕ
next h = h.factors + h.lines + 1

-- One line more, of the given text
abbrev pub with_line : Sheet → List ℕ → Sheet
with_line h text = record { text = put_text h.text text; factors = h.factors; lines = h.lines + 1 }

-- The first line alone
abbrev pub begun : ℕ → Sheet
begun n = record { text = in_bytes (first_text (plain n) absent); factors = n; lines = 0 }

-- There is room in it for a line: its count is one, and so many lines at most were written
abbrev pub Room : ℕ → Sheet → Type 0
Room most h = (h.factors ≤ 9) × (h.lines ≤ most)

-- The lines ls stand in the sheet, behind what stood there in `base`
pub record Draft (base : Lent) (h : Sheet) (ls : List TextLine) : Type 0 where
  pub lines : h.lines ≡ length ls
  pub text : h.text ≡ put_text base (lines_text ls)

pub record Holds (base : Lent) (h : Sheet) (x : code.Operand) (y : Operand) (ls : List TextLine) : Type 0 where
  pub operand : operand_of x ≡ y
  pub draft : Draft base h ls

-- what the lines become, with an operand; with none, constants met
abbrev pub HoldsAll : Lent → Sheet → Maybe code.Operand → Conversion → Type 0
HoldsAll base h (Some x) (operand y ls) = Holds base h x y ls
HoldsAll base h None mixed = Unit
HoldsAll base h (Some x) mixed = ⊥
HoldsAll base h None (operand y ls) = ⊥

-- What a function that writes at most so many lines makes of a sheet
pub record Makes (most : ℕ) (before : Sheet) (f : List TextLine → Conversion) (after : Sheet) (r : Maybe code.Operand) : Type 0 where
  pub factors : after.factors ≡ before.factors
  pub few : after.lines ≤ before.lines + most
  pub short : Short r
  pub does : (base : Lent) (ls : List TextLine) → Draft base before ls → HoldsAll base after r (f ls)

-- an operand with the exponent m
abbrev pub Raised : Sheet → Maybe code.Operand → ℕ → Sheet → Maybe code.Operand → Type 0
Raised before (Some x) m after r = Makes 1 before (λ ls. raised before.factors (operand_of x) m ls) after r
Raised before None m after r = (after ≡ before) × (r ≡ None)

-- two operands and the sign between them
abbrev pub Joined : Sheet → Sign → Maybe code.Operand → Maybe code.Operand → Sheet → Maybe code.Operand → Type 0
Joined before o (Some x) (Some y) after r = Makes 2 before (λ ls. joined before.factors o (operand_of x) (operand_of y) ls) after r
Joined before o (Some x) None after r = (after ≡ before) × (r ≡ None)
Joined before o None y after r = (after ≡ before) × (r ≡ None)

-- ════ bytes and digits, at the front of a text ════

-- a digit
abbrev pub IsDigit : List ℕ → Maybe (ℕ × Bor (List ℕ)) → Type 0
IsDigit s (Some r) = (digit (peek s) ≡ r.0) × (r.0 < 10) × (rest s ≡ r.1.now)
IsDigit s None = 10 ≤ digit (peek s)

pub record IsRun (s : List ℕ) (most : ℕ) (r : Run) : Type 0 where
  pub some : 1 ≤ r.count
  pub few : r.count ≤ most
  pub onward : length r.rest.now + r.count ≡ length s
  pub value : r.value < 10 ^ r.count
  pub read : (ds : List ℕ) × (digits_up_to most s ≡ good ds r.rest.now) × (r.value ≡ number_from 0 ds) × (r.count ≡ length ds)

abbrev pub AreDigits : List ℕ → ℕ → Result Run (Bor (List ℕ)) → Type 0
AreDigits s most (Ok r) = IsRun s most r
AreDigits s most (Err t) = (t.now ≡ s) × (digits_up_to most s ≡ good [] s)

abbrev pub IsConstant : List ℕ → Result (ℕ × Bor (List ℕ)) (Bor (List ℕ)) → Type 0
IsConstant s (Ok r) =
    (length r.1.now < length s) × (r.0 < 10 ^ 10)
    × ((w p : List ℕ) × (constant_at s ≡ good (constant w p) r.1.now) × (r.0 ≡ units_of w p))
IsConstant s (Err t) = (length t.now ≤ length s) × (constant_at s ≡ stuck t.now)

-- a factor or a constant, of which no line is written
pub record LeafIs (s : List ℕ) (n : ℕ) (x : code.Operand) (t : List ℕ) : Type 0 where
  pub onward : length t < length s
  pub short : number (operand_of x) < 10 ^ 10
  pub tree : Tree
  pub found : leaf_at s ≡ good tree t
  pub converts : (ls : List TextLine) → convert n tree ls ≡ operand (operand_of x) ls

abbrev pub IsLeaf : List ℕ → ℕ → Result (code.Operand × Bor (List ℕ)) (Bor (List ℕ)) → Type 0
IsLeaf s n (Ok r) = LeafIs s n r.0 r.1.now
IsLeaf s n (Err t) = (length t.now ≤ length s) × (leaf_at s ≡ stuck t.now)

-- ════ signs of a rank, and what they join, over a reader of atoms ════

abbrev pub signs : rank.Rank → ℕ → Option Sign
signs rank.TheVariants.Product = product_sign
signs rank.TheVariants.Sum = sum_sign

-- a sign of the rank stands first
abbrev pub IsSign : rank.Rank → List ℕ → Maybe (sign.Sign × Bor (List ℕ)) → Type 0
IsSign k s (Some r) = (signs k (peek s) ≡ some (sign_of r.0)) × (rest s ≡ r.1.now)
IsSign k s None = signs k (peek s) ≡ none

abbrev pub operands : rank.Rank → (List ℕ → Found Tree) → List ℕ → Found Tree
operands rank.TheVariants.Product = powered_at
operands rank.TheVariants.Sum = product_at

abbrev pub joined_at : rank.Rank → (List ℕ → Found Tree) → List ℕ → Found Tree
joined_at rank.TheVariants.Product = product_at
joined_at rank.TheVariants.Sum = sum_at

-- ════ the readers: at most two lines are written for each byte that is read ════

-- Before reading
pub record Ready (s : List ℕ) (h : Sheet) : Type 0 where
  pub factors : h.factors ≤ 9
  pub few : h.lines + 2 * length s ≤ 2 * longest

-- the lines of a tree were written
abbrev pub Works : Sheet → Tree → Sheet → Maybe code.Operand → Type 0
Works before t after x = (base : Lent) (ls : List TextLine) → Draft base before ls → HoldsAll base after x (convert before.factors t ls)

-- The reader a of specs/Read.antt finds a tree, and its lines are written
pub record Gone (s : List ℕ) (before : Sheet) (a : List ℕ → Found Tree) (after : Sheet) (x : Maybe code.Operand) (u : List ℕ) : Type 0 where
  pub onward : length u < length s
  pub factors : after.factors ≡ before.factors
  pub few : after.lines + 2 * length u ≤ before.lines + 2 * length s
  pub short : Short x
  pub tree : Tree
  pub found : a s ≡ good tree u
  pub works : Works before tree after x

-- It finds none, and u is left from the byte on that can't follow
pub record Stops (s : List ℕ) (a : List ℕ → Found Tree) (u : List ℕ) : Type 0 where
  pub onward : length u ≤ length s
  pub found : a s ≡ stuck u

-- A reader of the code reads what a reads
abbrev pub Reads : List ℕ → Sheet → (List ℕ → Found Tree) → Sheet → Result (Maybe code.Operand × Bor (List ℕ)) (Bor (List ℕ)) → Type 0
Reads s before a after (Ok r) = Gone s before a after r.0 r.1.now
Reads s before a after (Err u) = Stops s a u.now

-- ════ the whole text, of so many bytes ════

-- Its tree's lines, or the place, which is counted from 1
abbrev pub Parses : ℕ → Sheet → Parsed → Sheet → Result (Maybe code.Operand) (Bor (List ℕ)) → Type 0
Parses n before (tree t) after (Ok x) = Works before t after x
Parses n before (tree t) after (Err u) = ⊥
Parses n before (fault p) after (Ok x) = ⊥
Parses n before (fault p) after (Err u) = (p ≡ n - length u.now + 1) × (length u.now ≤ n)

-- The sheet's text, as far as there is room
abbrev pub Drafts : Given (List ℕ) → Result Lent Refusal → Type 0
Drafts (given x) (Ok t) = t ≡ in_bytes x
Drafts (given x) (Err r) = ⊥
Drafts (refused r) (Ok t) = ⊥
Drafts (refused r) (Err q) = q ≡ r
