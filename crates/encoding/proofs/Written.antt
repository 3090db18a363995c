-- What is written of a well formed codelist are bytes.
use Prim.Native.Nat.{ℕ, suc, zero, ◌+◌, ◌/◌, ◌%◌, ◌≤◌, ◌<◌}
use mathlib.Core.Bool.{true}
use mathlib.Core.List.{List, [], ◌∷◌}
use mathlib.Core.Path.{◌≡◌, refl}
use native.Mathlib.Omega.{arith}
use lib.Dec.{ltb, lit<}
use lib.ListN.{length}
use borrow.Author.Tests.{lt-ltb}
use Rattle.codelist.specs.declared.Entry.{Entry}
use Rattle.codelist.specs.declared.Op.{Op}
use Rattle.codelist.specs.declared.Op.TheVariants.{Add, Mul, AddC, MulC, Pow, Inv}
use Rattle.codelist.specs.Codelist.{WellFormedOp, WellFormedOps}
use Rattle.codelist.proofs.Laws.{both-made}
use Rattle.encoding.specs.Bytes.{are_bytes, low_first}
use Rattle.encoding.specs.Encode.{shifted, fields, op_bytes, ops_bytes, head_bytes}
use Rattle.encoding.proofs.Bytes.{bytes-append, bytes-zeros}

byte-before : (x : ℕ) (s : List ℕ) → x < 256 → are_bytes s ≡ true → are_bytes (x ∷ s) ≡ true
unfolding are_bytes
byte-before x s h e = both-made (ltb x 256) (are_bytes s) (lt-ltb x 256 h) e

pub low-first-bytes : (k u : ℕ) → are_bytes (low_first k u) ≡ true
unfolding low_first are_bytes
low-first-bytes zero u = refl
low-first-bytes (suc k) u = byte-before (u % 256) (low_first k (u / 256)) (omega arith) (low-first-bytes k (u / 256))

fields-bytes : (kind i j u : ℕ) → kind < 256 → i < 256 → j < 256 → are_bytes (fields kind i j u) ≡ true
fields-bytes kind i j u a b c =
    byte-before kind _ a (byte-before i _ b (byte-before j _ c (byte-before 0 _ (lit< tt) (low-first-bytes 4 u))))

op-bytes : (e : ℕ) (o : Op) → e < 256 → WellFormedOp e o → are_bytes (op_bytes o) ≡ true
op-bytes e (Add i j) h w = fields-bytes 1 i j 0 (lit< tt) (omega arith) (omega arith)
op-bytes e (Mul i j) h w = fields-bytes 2 i j 0 (lit< tt) (omega arith) (omega arith)
op-bytes e (AddC i c) h w = fields-bytes 3 i 0 (shifted c) (lit< tt) (omega arith) (lit< tt)
op-bytes e (MulC i c) h w = fields-bytes 4 i 0 (shifted c) (lit< tt) (omega arith) (lit< tt)
op-bytes e (Pow i m) h w = fields-bytes 5 i m 0 (lit< tt) (omega arith) (omega arith)
op-bytes e (Inv i) h w = fields-bytes 6 i 0 0 (lit< tt) (omega arith) (lit< tt)

pub ops-bytes : (e : ℕ) (xs : List Entry) → e + length xs ≤ 64 → WellFormedOps e xs → are_bytes (ops_bytes xs) ≡ true
unfolding ops_bytes are_bytes
ops-bytes e [] h w = refl
ops-bytes e (x ∷ xs) h w = bytes-append (op_bytes x.op) (ops_bytes xs) (op-bytes e x.op (omega arith) w.0) (ops-bytes (e + 1) xs (omega arith) w.1)

pub head-bytes : (n m y : ℕ) → n < 256 → m < 256 → y < 256 → are_bytes (head_bytes n m y) ≡ true
head-bytes n m y a b c = byte-before n _ a (byte-before m _ b (byte-before y _ c (bytes-zeros 5)))
