-- What the readers of the code do, step by step: each step is one of the readers of specs/Read.antt and of the conversion.
use Prim.Native.Nat.{ℕ, suc, zero, ◌+◌, ◌-◌, ◌*◌, ◌≤◌, ◌<◌}
use mathlib.Core.Bool.{true, false}
use mathlib.Core.List.{List, [], ◌∷◌}
use mathlib.Core.Option.{Option, none, some}
use mathlib.Core.Path.{◌≡◌, refl, sym, ap, subst, ◌∙◌}
use native.Mathlib.Numerals.{sub-one}
use native.Mathlib.Omega.{arith}
use lib.Dec.{eqb}
use lib.ListN.{length, take, drop}
use lib.Pointwise.{pointwise}
use borrow.Author.Tests.{eqb-true, lt-ltb, le-ltb}
use Rattle.std.specs.declared.option.Option.{Option as Maybe}
use Rattle.std.specs.declared.option.Option.TheVariants.{Some, None}
use Rattle.codelist.specs.Text.{TextLine}
use Rattle.codelist.specs.Read.{peek, rest, digit}
use Rattle.writer.specs.Lent.{Lent}
use Rattle.formulas.specs.declared.lines.Operand as code
use Rattle.formulas.specs.declared.lines.Sheet.{Sheet}
use Rattle.formulas.specs.declared.reader.Rank as rank
use Rattle.formulas.specs.Grammar.{Tree, bracket, power, join, Sign}
use Rattle.formulas.specs.Convert.{Conversion, operand, mixed, on_operand, convert, joined, raised}
use Rattle.formulas.specs.Read.{Found, good, stuck, and_then, leaf_at, closed, exponent, exponent_after, atom_at}
use Rattle.formulas.specs.Read.{powered_at, chain, product_at, sum_at}
use Rattle.formulas.specs.Views.{Short, LeafIs, HoldsAll, Raised, Joined}
use Rattle.formulas.specs.Views.{Ready, Works, Gone, Stops, signs, operands, joined_at}
use Rattle.formulas.proofs.Grammatical.{byte-of-sign, product-signs, sum-signs}
use Rattle.formulas.proofs.Laws.{shorter, digit-shorter, strip-some}

-- ════ atoms ════

-- with no room for a bracket there is a leaf
pub no_room : (room : ℕ) (s : List ℕ) → room ≡ 0 → atom_at room s ≡ leaf_at s
unfolding atom_at
no_room zero s e = refl
no_room (suc room) s e = absurd (omega arith)

not-open : (room : ℕ) (s : List ℕ) → eqb (peek s) 40 ≡ false → atom_at room s ≡ leaf_at s
unfolding atom_at
not-open zero s h = refl
not-open (suc room) s h = simp h

opened : (room : ℕ) (s : List ℕ) → 0 < room → eqb (peek s) 40 ≡ true → atom_at room s ≡ and_then (sum_at (atom_at (room - 1)) (rest s)) closed
unfolding atom_at
opened zero s h e = absurd (omega arith)
opened (suc room) s h e = simp (e, sub-one)

closes : (t : Tree) (s : List ℕ) → eqb (peek s) 41 ≡ true → closed t s ≡ good (bracket t) (rest s)
unfolding closed
closes t s e = simp e

not-closed : (t : Tree) (s : List ℕ) → eqb (peek s) 41 ≡ false → closed t s ≡ stuck s
unfolding closed
not-closed t s e = simp e

-- a byte is behind another
byte-shorter : (s : List ℕ) (b : ℕ) (u : List ℕ) → b < 256 → eqb (peek s) b ≡ true → rest s ≡ u → length u + 1 ≡ length s
byte-shorter s b u h f e = omega (arith, shorter s (omega (arith, eqb-true (peek s) b f)), ap length e)

-- a leaf: there is no room for a bracket, or none opens
pub leaf_by_room : {room : ℕ} (s : List ℕ) → room ≤ 0 → atom_at room s ≡ leaf_at s
leaf_by_room {room} s e = no_room room s (omega arith)

pub leaf-by-byte : (room : ℕ) (s : List ℕ) → eqb (peek s) 40 ≡ false → atom_at room s ≡ leaf_at s
leaf-by-byte room s e = not-open room s e

module _ {s : List ℕ} (h : Sheet) (room : ℕ) (e : atom_at room s ≡ leaf_at s) where
  pub leaf-gone : {x : code.Operand} {t : List ℕ} → LeafIs s h.factors x t → Gone s h (atom_at room) h (Some x) t
  leaf-gone {x} {t} l = record {
    onward = l.onward;
    factors = refl;
    few = omega (arith, l.onward);
    short = l.short;
    tree = l.tree;
    found = e ∙ l.found;
    works = λ base ls d. subst (HoldsAll base h (Some x)) (sym (l.converts ls)) (record { operand = refl; draft = d });
  }

  pub leaf-stops : {u : List ℕ} → (length u ≤ length s) × (leaf_at s ≡ stuck u) → Stops s (atom_at room) u
  leaf-stops l = record { onward = l.0; found = e ∙ l.1 }

-- A bracket opens, and u is behind it
pub record Opens (room : ℕ) (s u : List ℕ) : Type 0 where
  pub deep : 0 < room
  pub byte : eqb (peek s) 40 ≡ true
  pub behind : rest s ≡ u

pub opens : {room : ℕ} {s u : List ℕ} {n : ℕ} → 0 < room → (pointwise eqb (take 1 s) (40 ∷ []) ≡ true) × (u ≡ drop 1 s) × (length u + 1 ≡ n) → Opens room s u
opens {s = s} h e = let d = strip-some s 40 e in record { deep = h; byte = d.0; behind = d.1 }

module _ {room : ℕ} {s u : List ℕ} (o : Opens room s u) where
  pub bracket-shorter : length u + 1 ≡ length s
  bracket-shorter = byte-shorter s 40 u (omega arith) o.byte o.behind

  inner-at : atom_at room s ≡ and_then (sum_at (atom_at (room - 1)) u) closed
  inner-at = opened room s o.deep o.byte ∙ ap (λ (v : List ℕ). and_then (sum_at (atom_at (room - 1)) v) closed) o.behind

  -- nothing is read in the bracket
  pub bracket-stops : {v : List ℕ} → Stops u (sum_at (atom_at (room - 1))) v → Stops s (atom_at room) v
  bracket-stops h = record {
    onward = omega (arith, h.onward, bracket-shorter);
    found = inner-at ∙ ap (λ (f : Found Tree). and_then f closed) h.found;
  }

  module _ {before after : Sheet} {x : Maybe code.Operand} {v : List ℕ} (g : Gone u before (sum_at (atom_at (room - 1))) after x v) where
    within : atom_at room s ≡ closed g.tree v
    within = inner-at ∙ ap (λ (f : Found Tree). and_then f closed) g.found

    -- a sum is read in the bracket, and no bracket closes
    pub bracket-open : eqb (peek v) 41 ≡ false → Stops s (atom_at room) v
    bracket-open h = record { onward = omega (arith, g.onward, bracket-shorter); found = within ∙ not-closed g.tree v h }

    -- a sum is read in the bracket, and it closes
    pub bracket-closes : {w : List ℕ} → eqb (peek v) 41 ≡ true → rest v ≡ w → Gone s before (atom_at room) after x w
    unfolding convert
    bracket-closes {w} h e =
        let k = byte-shorter v 41 w (omega arith) h e in
        record {
          onward = omega (arith, g.onward, bracket-shorter, k);
          factors = g.factors;
          few = omega (arith, g.few, bracket-shorter, k);
          short = g.short;
          tree = bracket g.tree;
          found = within ∙ closes g.tree v h ∙ ap (λ (z : List ℕ). good (bracket g.tree) z) e;
          works = bracket-works g.tree g.works;
        }
      where
        bracket-works : (t : Tree) → Works before t after x → Works before (bracket t) after x
        bracket-works t w base ls d = w base ls d

-- ════ powers ════

module _ (a : List ℕ → Found Tree) (u : List ℕ) where
  powered-stuck : (v : List ℕ) → a u ≡ stuck v → powered_at a u ≡ stuck v
  unfolding powered_at
  powered-stuck v e = simp e

  module _ (t : Tree) (v : List ℕ) (e : a u ≡ good t v) where
    powered-plain : eqb (peek v) 94 ≡ false → powered_at a u ≡ good t v
    unfolding powered_at exponent_after
    powered-plain h = simp (e, h)

    module _ (w : List ℕ) (p : eqb (peek v) 94 ≡ true) (r : rest v ≡ w) where
      no-exponent : 10 ≤ digit (peek w) → powered_at a u ≡ stuck w
      unfolding powered_at exponent_after exponent
      no-exponent h = simp (e, p, r, le-ltb _ 10 h)

      powered-up : (m : ℕ) → digit (peek w) ≡ m → m < 10 → powered_at a u ≡ good (power t m) (rest w)
      unfolding powered_at exponent_after exponent
      powered-up m q h = simp (e, p, r, q, lt-ltb m 10 h)

raise-step : (base : Lent) (h : Sheet) (x : Maybe code.Operand) (m n : ℕ) (after : Sheet) (r : Maybe code.Operand) (c : Conversion) → h.factors ≡ n
    → Raised h x m after r → HoldsAll base h x c → HoldsAll base after r (on_operand c (λ y ks. raised n y m ks))
raise-step base h (Some x) m n after r (operand y ls) e g k =
    rw (← e, ← k.operand) (g.does base ls k.draft)
raise-step base h (Some x) m n after r mixed e g k = absurd k
raise-step base h None m n after r (operand y ls) e g k = absurd k
raise-step base h None m n after r mixed e g k = rw g.1 tt

raised-few : (h : Sheet) (x : Maybe code.Operand) (m : ℕ) (after : Sheet) (r : Maybe code.Operand) → Raised h x m after r
    → (after.factors ≡ h.factors) × (after.lines ≤ h.lines + 1) × Short r
raised-few h (Some x) m after r g = (g.factors, g.few, g.short)
raised-few h None m after r g = rw (g.0, g.1) (refl, omega arith, tt)

module _ {s : List ℕ} {a : List ℕ → Found Tree} where
  pub power-stops : {u : List ℕ} → Stops s a u → Stops s (powered_at a) u
  power-stops h = record { onward = h.onward; found = powered-stuck a s _ h.found }

  module _ {before mid : Sheet} {x : Maybe code.Operand} {u : List ℕ} (g : Gone s before a mid x u) where
    -- no exponent follows
    pub power-plain : eqb (peek u) 94 ≡ false → Gone s before (powered_at a) mid x u
    power-plain h = record {
      onward = g.onward;
      factors = g.factors;
      few = g.few;
      short = g.short;
      tree = g.tree;
      found = powered-plain a s g.tree u g.found h;
      works = g.works;
    }

    module _ {v : List ℕ} (f : eqb (peek u) 94 ≡ true) (r : rest u ≡ v) where
      -- no digit follows the sign
      pub power-none : 10 ≤ digit (peek v) → Stops s (powered_at a) v
      power-none h = record {
        onward = omega (arith, g.onward, byte-shorter u 94 v (omega arith) f r);
        found = no-exponent a s g.tree u g.found v f r h;
      }

      -- one does, and the operand is raised
      pub power-up : {m : ℕ} {w : List ℕ} {after : Sheet} {y : Maybe code.Operand} → digit (peek v) ≡ m → m < 10 → rest v ≡ w → Raised mid x m after y
          → Gone s before (powered_at a) after y w
      unfolding convert
      power-up {m} {w} {after} {y} d h q k =
          let b = raised-few mid x m after y k in
          let l = byte-shorter u 94 v (omega arith) f r in
          record {
            onward = omega (arith, g.onward, l, digit-shorter v m d h, ap length q);
            factors = b.0 ∙ g.factors;
            few = omega (arith, g.few, b.1, l, digit-shorter v m d h, ap length q);
            short = b.2;
            tree = power g.tree m;
            found = powered-up a s g.tree u g.found v f r m d h ∙ ap (λ (z : List ℕ). good (power g.tree m) z) q;
            works = raise-works g.tree g.works;
          }
        where
          raise-works : (t : Tree) → Works before t mid x → Works before (power t m) after y
          raise-works t w base ls d = raise-step base mid x m before.factors after y (convert before.factors t ls) g.factors k (w base ls d)

-- ════ the loop ════

-- From the sheet h₀, the operand x₀ and the text u₀ to h, x and u: whatever tree was read before, it is now the left part of another, and what is
-- left to do is what was to do
pub record Going (signs : ℕ → Option Sign) (a : List ℕ → Found Tree) (n : ℕ) (h₀ : Sheet) (x₀ : Maybe code.Operand) (u₀ : List ℕ)
    (h : Sheet) (x : Maybe code.Operand) (u : List ℕ) (t₀ : Tree) (k₀ : ℕ) : Type 0 where
  pub tree : Tree
  pub rounds : ℕ
  pub enough : length u ≤ rounds
  pub same : chain signs a rounds tree u ≡ chain signs a k₀ t₀ u₀
  pub works : (base : Lent) (ls : List TextLine) → HoldsAll base h₀ x₀ (convert n t₀ ls) → HoldsAll base h x (convert n tree ls)

-- one operand more
join-step : (base : Lent) (h : Sheet) (x : Maybe code.Operand) (mid : Sheet) (y : Maybe code.Operand) (after : Sheet) (r : Maybe code.Operand)
    (n : ℕ) (o : Sign) (u : Tree) (c : Conversion) → h.factors ≡ n → mid.factors ≡ n → Works h u mid y → Joined mid o x y after r → HoldsAll base h x c
    → HoldsAll base after r (on_operand c (λ v ks. on_operand (convert n u ks) (λ w js. joined n o v w js)))
join-step base h None mid y after r n o u mixed e f w g k = rw g.1 tt
join-step base h None mid y after r n o u (operand v ks) e f w g k = absurd k
join-step base h (Some x) mid y after r n o u mixed e f w g k = absurd k
join-step base h (Some x) mid y after r n o u (operand v ks) e f w g k =
    go y g (convert n u ks) (subst (λ (i : ℕ). HoldsAll base mid y (convert i u ks)) e (w base ks k.draft))
  where
    go : (y : Maybe code.Operand) → Joined mid o (Some x) y after r → (c : Conversion) → HoldsAll base mid y c
        → HoldsAll base after r (on_operand c (λ w js. joined n o v w js))
    go None g mixed j = rw g.1 tt
    go None g (operand z js) j = absurd j
    go (Some y) g mixed j = absurd j
    go (Some y) g (operand z js) j = rw (← f, ← k.operand, ← j.operand) (g.does base js j.draft)

joined-few : (h : Sheet) (o : Sign) (x y : Maybe code.Operand) (after : Sheet) (r : Maybe code.Operand) → Joined h o x y after r
    → (after.factors ≡ h.factors) × (after.lines ≤ h.lines + 2) × Short r
joined-few h o (Some x) (Some y) after r g = (g.factors, g.few, g.short)
joined-few h o (Some x) None after r g = rw (g.0, g.1) (refl, omega arith, tt)
joined-few h o None y after r g = rw (g.0, g.1) (refl, omega arith, tt)

-- the next round of a chain
module _ (signs : ℕ → Option Sign) (a : List ℕ → Found Tree) (u v : List ℕ) (k : ℕ) (x : Tree) (o : Sign) (e : signs (peek u) ≡ some o) (r : rest u ≡ v)
  where
    chain-on : (y : Tree) (w : List ℕ) → a v ≡ good y w → chain signs a (suc k) x u ≡ chain signs a k (join o x y) w
    unfolding chain
    chain-on y w f = simp (e, r, f)

    chain-stuck : (w : List ℕ) → a v ≡ stuck w → chain signs a (suc k) x u ≡ stuck w
    unfolding chain
    chain-stuck w f = simp (e, r, f)

chain-end : (signs : ℕ → Option Sign) (a : List ℕ → Found Tree) (k : ℕ) (x : Tree) (v : List ℕ) → signs (peek v) ≡ none
    → chain signs a k x v ≡ good x v
unfolding chain
chain-end signs a zero x v e = refl
chain-end signs a (suc k) x v e = simp e

-- What holds in the loop of a chain
pub record Loop (signs : ℕ → Option Sign) (a : List ℕ → Found Tree) (h₀ : Sheet) (x₀ : Maybe code.Operand) (u₀ : List ℕ)
    (h : Sheet) (x : Maybe code.Operand) (u : List ℕ) : Type 0 where
  pub onward : length u ≤ length u₀
  pub factors : h.factors ≡ h₀.factors
  pub few : h.lines + 2 * length u ≤ h₀.lines + 2 * length u₀
  pub short : Short x
  pub going : (t₀ : Tree) (k₀ : ℕ) → length u₀ ≤ k₀ → Going signs a h₀.factors h₀ x₀ u₀ h x u t₀ k₀

-- The reader `whole` reads a chain: what a reads, joined by the signs
pub record Chains (signs : ℕ → Option Sign) (a whole : List ℕ → Found Tree) : Type 0 where
  pub first : (u : List ℕ) (t : Tree) (v : List ℕ) → a u ≡ good t v → whole u ≡ chain signs a (length v) t v
  pub stuck : (u v : List ℕ) → a u ≡ stuck v → whole u ≡ stuck v

pub rank-chains : (k : rank.Rank) (a : List ℕ → Found Tree) → Chains (signs k) (operands k a) (joined_at k a)
unfolding product_at sum_at
rank-chains rank.TheVariants.Product a = record { first = λ u t v e. simp e; stuck = λ u v e. simp e }
rank-chains rank.TheVariants.Sum a = record { first = λ u t v e. simp e; stuck = λ u v e. simp e }

sign-byte : (k : rank.Rank) (b : ℕ) (o : Sign) → signs k b ≡ some o → b < 256
sign-byte rank.TheVariants.Product b o e = omega (arith, product-signs.byte b o e, byte-of-sign o)
sign-byte rank.TheVariants.Sum b o e = omega (arith, sum-signs.byte b o e, byte-of-sign o)

-- A sign stands first in u, and v is behind it
pub record Signed (signs : ℕ → Option Sign) (u : List ℕ) (o : Sign) (v : List ℕ) : Type 0 where
  pub inside : length v + 1 ≡ length u
  pub sign : signs (peek u) ≡ some o
  pub behind : rest u ≡ v

pub rank-signed : {u v : List ℕ} {o : Sign} (k : rank.Rank) → (signs k (peek u) ≡ some o) × (rest u ≡ v) → Signed (signs k) u o v
rank-signed {u} {v} {o} k e = record {
  inside = omega (arith, shorter u (sign-byte k (peek u) o e.0), ap length e.1);
  sign = e.0;
  behind = e.1;
}

-- no first operand
pub chain-stops : {signs : ℕ → Option Sign} {a whole : List ℕ → Found Tree} {s u : List ℕ} → Chains signs a whole → Stops s a u → Stops s whole u
chain-stops {s = s} c h = record { onward = h.onward; found = c.stuck s _ h.found }

module _ {signs : ℕ → Option Sign} {a : List ℕ → Found Tree} {s : List ℕ} {before h₀ : Sheet} {x₀ : Maybe code.Operand} {u₀ : List ℕ}
    (f : Gone s before a h₀ x₀ u₀) where
  -- the loop begins with the first operand
  pub loop-starts : Loop signs a h₀ x₀ u₀ h₀ x₀ u₀
  loop-starts = record {
    onward = omega arith;
    factors = refl;
    few = omega arith;
    short = f.short;
    going = λ t₀ k₀ h. record { tree = t₀; rounds = k₀; enough = h; same = refl; works = λ base ls w. w };
  }

  module _ {h : Sheet} {x : Maybe code.Operand} {u : List ℕ} (l : Loop signs a h₀ x₀ u₀ h x u) where
    g : Going signs a h₀.factors h₀ x₀ u₀ h x u f.tree (length u₀)
    g = l.going f.tree (length u₀) (omega arith)

    -- no sign follows
    pub chain-ends : {whole : List ℕ → Found Tree} → Chains signs a whole → signs (peek u) ≡ none → Gone s before whole h x u
    chain-ends c e = record {
      onward = omega (arith, f.onward, l.onward);
      factors = l.factors ∙ f.factors;
      few = omega (arith, f.few, l.few);
      short = l.short;
      tree = g.tree;
      found = c.first s f.tree u₀ f.found ∙ sym g.same ∙ chain-end signs a g.rounds g.tree u e;
      works = λ base ls d.
          subst (λ (n : ℕ). HoldsAll base h x (convert n g.tree ls)) f.factors
          (g.works base ls (subst (λ (n : ℕ). HoldsAll base h₀ x₀ (convert n f.tree ls)) (sym f.factors) (f.works base ls d)));
    }

    -- a sign stands there, and v is behind it
    module _ {o : Sign} {v : List ℕ} (e : Signed signs u o v) where
      -- and the operand behind it can be read
      pub sign-ready : Ready s before → (length v < length s) × Ready v h
      sign-ready q = (
        omega (arith, f.onward, l.onward, e.inside),
        record {
          factors = omega (arith, q.factors, f.factors, l.factors);
          few = omega (arith, q.few, f.few, l.few, e.inside);
        },
      )

      -- but is none
      pub chain-breaks : {whole : List ℕ → Found Tree} {w : List ℕ} → Chains signs a whole → Stops v a w → Stops s whole w
      chain-breaks {w = w} c b = record {
        onward = omega (arith, b.onward, f.onward, l.onward, e.inside);
        found = c.first s f.tree u₀ f.found ∙ go g.rounds g.enough g.same;
      }
        where
          go : (i : ℕ) → length u ≤ i → chain signs a i g.tree u ≡ chain signs a (length u₀) f.tree u₀
              → chain signs a (length u₀) f.tree u₀ ≡ stuck w
          go zero d z = absurd (omega (arith, e.inside))
          go (suc i) d z = sym z ∙ chain-stuck signs a u v i g.tree o e.sign e.behind w b.found

      module _ {mid : Sheet} {y : Maybe code.Operand} {w : List ℕ} (b : Gone v h a mid y w) where
        -- the two operands can be joined
        pub joinable : Ready s before → ((mid.factors ≤ 9) × (mid.lines ≤ 3000)) × Short x × Short y
        joinable q =
            let c = (sign-ready q).1 in
            ((omega (arith, c.factors, b.factors), omega (arith, c.few, b.few)), l.short, b.short)

        -- less of the text is left
        pub chain-shrinks : length w < length u
        chain-shrinks = omega (arith, b.onward, e.inside)

        -- and the chain is one operand longer
        pub chain-turns : {after : Sheet} {z : Maybe code.Operand} → Joined mid o x y after z → Loop signs a h₀ x₀ u₀ after z w
        unfolding convert
        chain-turns {after} {z} j =
            let c = joined-few mid o x y after z j in
            record {
              onward = omega (arith, b.onward, l.onward, e.inside);
              factors = c.0 ∙ b.factors ∙ l.factors;
              few = omega (arith, b.few, c.1, l.few, e.inside);
              short = c.2;
              going = λ t₀ k₀ q. next t₀ k₀ (l.going t₀ k₀ q);
            }
          where
            next : (t₀ : Tree) (k₀ : ℕ) → Going signs a h₀.factors h₀ x₀ u₀ h x u t₀ k₀
                → Going signs a h₀.factors h₀ x₀ u₀ after z w t₀ k₀
            next t₀ k₀ m = go m.rounds m.enough m.same
              where
                works' : (base : Lent) (ls : List TextLine) → HoldsAll base h₀ x₀ (convert h₀.factors t₀ ls)
                    → HoldsAll base after z (convert h₀.factors (join o m.tree b.tree) ls)
                works' base ls q =
                    join-step base h x mid y after z h₀.factors o b.tree (convert h₀.factors m.tree ls) l.factors (b.factors ∙ l.factors)
                    b.works j (m.works base ls q)

                go : (i : ℕ) → length u ≤ i
                    → chain signs a i m.tree u ≡ chain signs a k₀ t₀ u₀
                    → Going signs a h₀.factors h₀ x₀ u₀ after z w t₀ k₀
                go zero d q = absurd (omega (arith, e.inside))
                go (suc i) d q = record {
                  tree = join o m.tree b.tree;
                  rounds = i;
                  enough = omega (arith, b.onward, e.inside);
                  same = sym (chain-on signs a u v i m.tree o e.sign e.behind b.tree w b.found) ∙ q;
                  works = works';
                }
