-- Loading after lines that are within the rules goes on with the rest.
use Prim.Native.Nat.{ℕ, ◌+◌, ◌-◌, ◌≤◌}
use mathlib.Core.List.{List, [], ◌++◌}
use mathlib.Core.Path.{◌≡◌, sym, ap, subst, ◌∙◌}
use native.Mathlib.Nat.{add-zero}
use native.Mathlib.Omega.{arith}
use lib.ListN.{length}
use borrow.Author.Tests.{le-leb}
use Rattle.codelist.specs.declared.Entry.{Entry}
use Rattle.codelist.specs.declared.Numeral.{Numeral}
use Rattle.codelist.specs.Text.{YearField, FirstAt}
use Rattle.codelist.specs.Codelist.{WellFormedOps}
use Rattle.codelist.specs.Write.{plain, ops_text}
use Rattle.codelist.specs.Read.{good, first_line}
use Rattle.codelist.specs.Load.{on_first, operation_lines, load_of}
use Rattle.codelist.specs.Refused.{Upto}
use Rattle.codelist.proofs.LineTexts.{first-complete}
use Rattle.codelist.proofs.Checks.{plain-numeral, between-yes}
use Rattle.codelist.proofs.Years.{year-numeral}
use Rattle.codelist.proofs.Traces.{run}

-- a text that is not too long, and one with a first line
pub not-long : (s : List ℕ) → length s ≤ 4096 → load_of s ≡ on_first (first_line s)
unfolding load_of
not-long s h = rw (le-leb (length s) 4096 h)

pub first_read : (s : List ℕ) (w : Numeral) (f : YearField) (t : List ℕ) → length s ≤ 4096 → FirstAt s w f t → load_of s ≡ on_first (good (w, f) t)
first_read s w f t h a = not-long s h ∙ ap on_first (ap first_line a.text ∙ first-complete w f t a.fine a.year)

pub resumed : (s : List ℕ) (n : ℕ) (xs : List Entry) (rest : List ℕ) (left : ℕ) (u : Upto s n xs rest) → n + length xs + left ≡ 64
    → load_of s ≡ operation_lines u.year n left xs rest
resumed s n xs rest left u e =
    first_read s (plain n) u.field (ops_text xs ++ rest) u.short
    (record {
      fine = plain-numeral n (omega (arith, u.factors.1));
      year = year-numeral u.field u.year u.names;
      text = u.text;
    })
    ∙ rw (between-yes 1 8 n u.factors.0 u.factors.1, u.names)
    (run u.year xs (64 - n) left n [] rest (omega arith) (omega (arith, u.few))
    (subst (λ (k : ℕ). WellFormedOps k xs) (sym (add-zero n)) u.each))
