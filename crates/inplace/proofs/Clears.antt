-- Where all tests are clear at once, none refuses. Assumes nothing.
use mathlib.Core.Path.{◌≡◌, sym, ◌∙◌}
use mathlib.Core.Bool.{Bool, true, false, not}
use mathlib.Core.List.{List, [], ◌∷◌}
use Prim.Native.Nat.{ℕ, ◌*◌, ◌%◌, ◌^◌}
use native.Mathlib.Nat.{mod-eq_of_lt}
use native.Mathlib.Omega.{arith}
use borrow.Author.Rules.{rules}
use borrow.Author.Tests.{ltb-true, leb-true, le-ltb, lt-leb, not-true}
use lib.Dec.{ltb, leb}
use lib.IntN.{ℤ}
use lib.Signed.{lt_z}
use Rattle.std.specs.Prelude.{Ok}
use Rattle.numbers.specs.Instants.{is_reading}
use Rattle.window.specs.declared.push.Packet.{Packet}
use Rattle.head.specs.Rules.{first_refusal, push_rules, pop_rules}
use Rattle.head.specs.Head.{head_ok}
use Rattle.packing.specs.Words.{whole_of}
use Rattle.packing.specs.Packed.{at, unpack_of}
use Rattle.sound.proofs.Quick.{parts}
use Rattle.inplace.proofs.Messages.{refusal-by as pop-by}
use Rattle.inplace.proofs.Datas.{refusal-by as push-by}
use Rattle.inplace.specs.Clear.{areas_clear, packet_clear}
use Rattle.inplace.specs.Pops.{pop_refusal}
use Rattle.inplace.specs.Pushes.{push_refusal}

module _ (ok : Bool) (capacity slots bytes : ℕ) (now latest : ℤ) (c : areas_clear ok capacity slots bytes now latest ≡ true) where
  abbrev early : Bool
  early = lt_z now latest

  clear : (ok ≡ true) × ((leb capacity 8192 ≡ true) × ((leb (capacity % 16384 * 3) slots ≡ true) × ((leb (capacity % 16384 * 1456) bytes ≡ true) × ((is_reading now ≡ true) × ((not early ≡ true) × Unit {0})))))
  clear = parts ok (leb capacity 8192 ∷ leb (capacity % 16384 * 3) slots ∷ leb (capacity % 16384 * 1456) bytes ∷ is_reading now ∷ not early ∷ []) c

  itself : capacity % 16384 ≡ capacity
  itself = let h = leb-true capacity 8192 clear.1.0 in mod-eq_of_lt (omega arith)

  slots-long : ltb slots (3 * capacity) ≡ false
  slots-long = let h = leb-true (capacity % 16384 * 3) slots clear.1.1.0 in le-ltb slots (3 * capacity) (omega (arith, itself))

  bytes-long : ltb bytes (1456 * capacity) ≡ false
  bytes-long = let h = leb-true (capacity % 16384 * 1456) bytes clear.1.1.1.0 in le-ltb bytes (1456 * capacity) (omega (arith, itself))

  pop-clear : first_refusal (pop_rules ok capacity slots bytes now latest) ≡ Ok tt
  pop-clear = rw (clear.0, slots-long, bytes-long, clear.1.1.1.1.0, not-true early clear.1.1.1.1.1.0)

  push-clear : (p : Packet) (size : ℕ) → packet_clear p size ≡ true → first_refusal (push_rules ok capacity slots bytes now latest p size) ≡ Ok tt
  push-clear p size d =
      let q = parts (ltb p.number (2 ^ 31)) (ltb p.message (2 ^ 26) ∷ ltb p.location 4 ∷ leb size 1456 ∷ []) d in
      rw (
        clear.0,
        slots-long,
        bytes-long,
        clear.1.1.1.1.0,
        not-true early clear.1.1.1.1.1.0,
        lt-leb (2 ^ 31) p.number (ltb-true p.number (2 ^ 31) q.0),
        lt-leb (2 ^ 26) p.message (ltb-true p.message (2 ^ 26) q.1.0),
        lt-leb 4 p.location (ltb-true p.location 4 q.1.1.0),
        le-ltb 1456 size (leb-true size 1456 q.1.1.1.0),
      )

-- refusal: Ok where all is clear
module _ (ws : List ℕ) (slots bytes : ℕ) (now : ℤ) {ok a : Bool} {c : ℕ} {t l l₁ : ℤ} (e : ok ≡ head_ok (unpack_of ws)) (f : c ≡ at ws 1) (g : l ≡ whole_of (at ws 0)) (h : l₁ ≡ l)
    (i : a ≡ areas_clear ok c slots bytes t l₁) (k : t ≡ now) (d : a ≡ true) where
  pub pop-none : Ok tt ≡ pop_refusal ws slots bytes now
  unfolding pop_refusal
  pop-none = sym (pop-clear (head_ok (unpack_of ws)) (at ws 1) slots bytes now (whole_of (at ws 0)) (rw (e, f, h, g, k) at (sym i ∙ d)))

  pub push-none : (p : Packet) (size : ℕ) {b : Bool} → b ≡ packet_clear p size → b ≡ true → Ok tt ≡ push_refusal ws slots bytes now p size
  unfolding push_refusal
  push-none p size m n = sym (push-clear (head_ok (unpack_of ws)) (at ws 1) slots bytes now (whole_of (at ws 0)) (rw (e, f, h, g, k) at (sym i ∙ d)) p size (sym m ∙ n))

pub ruleset pop-clears = (pop-none, pop-by, rules)

pub ruleset push-clears = (push-none, push-by, rules)
