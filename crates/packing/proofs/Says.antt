-- What the code of unpack.rt does at each return and each turn, as laws over plain values; the proof files hand them to `search`. Assumes nothing.
use mathlib.Core.Path.{◌≡◌, refl, sym, ◌∙◌, ap}
use mathlib.Core.Bool.{Bool, true, false, ◌&&◌}
use mathlib.Core.List.{List}
use Prim.Native.Nat.{ℕ, ◌+◌, ◌≤◌}
use native.Mathlib.Numerals.{add-one}
use native.Mathlib.Omega.{arith}
use borrow.Author.Rules.{rules}
use lib.Dec.{ltb}
use lib.Ieee.{Float}
use lib.IntN.{ℤ}
use lib.ListN.{set, replicate}
use Rattle.std.specs.Prelude.{Option}
use Rattle.clock.specs.declared.base.TimeBase.{TimeBase}
use Rattle.clock.specs.declared.stats.OnlineStats.{OnlineStats}
use Rattle.clock.specs.declared.time.SynchronizedRemoteClock.{SynchronizedRemoteClock}
use Rattle.acks.specs.declared.history.History.{History}
use Rattle.intervals.specs.declared.rates.Arrivals.{Arrivals}
use Rattle.intervals.specs.declared.rates.Links.{Links}
use Rattle.acks.specs.declared.rtt.Rtt.{Rtt}
use Rattle.window.specs.declared.Window.{Window}
use Rattle.head.specs.declared.state.Head.{Head}
use Rattle.packing.specs.Words.{whole_of, float_of, flag_of, number_of, moment_of, number_formed, flag_formed, float_formed, moment_formed}
use Rattle.packing.specs.Packed.{at, sixteen_of, window_of, base_of, stats_of, clock_of, rtt_of, arrivals_of, links_of, history_of, head_of, numbers_formed, first_formed, rates_formed, last_formed, formed, nowhere, unpack_of}
use Rattle.packing.specs.Puts.{read_numbers}

-- the loops of sixteen
pub read-start : (ws : List ℕ) (i : ℕ) → replicate 16 0 ≡ read_numbers ws i 0
unfolding read_numbers
read-start ws i = refl

pub read-turn : (ws : List ℕ) (i n : ℕ) {ns : List ℕ} {v : ℕ} → ns ≡ read_numbers ws i n → v ≡ number_of (at ws (i + n)) → set ns n v ≡ read_numbers ws i (n + 1)
unfolding read_numbers
read-turn ws i n p q = rw (add-one, p, q)

read_all : (ws : List ℕ) (i : ℕ) → read_numbers ws i 16 ≡ sixteen_of ws i
unfolding read_numbers sixteen_of
read_all ws i = refl

pub read-end : (ws : List ℕ) (i n : ℕ) {ns : List ℕ} → ns ≡ read_numbers ws i n → n ≤ 16 → 16 ≤ n → ns ≡ sixteen_of ws i
read-end ws i n p h g =
    let e : n ≡ 16 = omega arith in
    p ∙ ap (read_numbers ws i) e ∙ read_all ws i

pub test-start : (ws : List ℕ) (i : ℕ) → true ≡ numbers_formed ws i 0
unfolding numbers_formed
test-start ws i = refl

pub test-turn : (ws : List ℕ) (i n : ℕ) {ok : Bool} → ok ≡ numbers_formed ws i n → (ok && ltb (at ws (i + n)) 4294967296) ≡ numbers_formed ws i (n + 1)
unfolding numbers_formed
test-turn ws i n p = rw (add-one, p)

pub test-end : (ws : List ℕ) (i n : ℕ) {ok : Bool} → ok ≡ numbers_formed ws i n → n ≤ 16 → 16 ≤ n → ok ≡ numbers_formed ws i 16
test-end ws i n p h g =
    let e : n ≡ 16 = omega arith in
    p ∙ ap (numbers_formed ws i) e

module _ (ws : List ℕ) where
  -- the parts
  pub says-window : {a b c d e : ℕ}
      → a ≡ at ws 1 → b ≡ at ws 2 → c ≡ at ws 3 → d ≡ number_of (at ws 4) → e ≡ number_of (at ws 5)
      → ◌≡◌ {A = Window} (record { capacity = a; start = b; held = c; seqno0 = d; lrsn = e }) (window_of ws)
  says-window a b c d e = rw (a, b, c, d, e)

  pub says-base : {z z₁ : ℤ} {n : ℕ} → z ≡ whole_of (at ws 8) → z₁ ≡ z → n ≡ number_of (at ws 9) → ◌≡◌ {A = TimeBase} (record { time = z₁; stamp = n }) (base_of ws)
  says-base a b c = rw (b, a, c)

  pub says-stats : {x y : Float} {n : ℕ}
      → x ≡ float_of (at ws 13) → y ≡ float_of (at ws 14) → n ≡ number_of (at ws 15)
      → ◌≡◌ {A = OnlineStats} (record { mean = x; squares = y; count = n }) (stats_of ws)
  says-stats a b c = rw (a, b, c)

  pub says-clock : {b : TimeBase} {m : Option ℤ} {s : Bool} {o : OnlineStats}
      → b ≡ base_of ws → m ≡ moment_of (at ws 10) (at ws 11) → s ≡ flag_of (at ws 12) → o ≡ stats_of ws
      → ◌≡◌ {A = SynchronizedRemoteClock} (record { base = b; last = m; seen = s; stats = o }) (clock_of ws)
  says-clock a b c d = rw (a, b, c, d)

  pub says-rtt : {a b : ℕ} → a ≡ number_of (at ws 16) → b ≡ number_of (at ws 17) → ◌≡◌ {A = Rtt} (record { mean = a; variance = b }) (rtt_of ws)
  says-rtt a b = rw (a, b)

  pub says-arrivals : {g s : List ℕ} {a n : ℕ} {m : Option ℤ}
      → g ≡ sixteen_of ws 18 → s ≡ sixteen_of ws 34 → a ≡ at ws 50 → n ≡ at ws 51 → m ≡ moment_of (at ws 52) (at ws 53)
      → ◌≡◌ {A = Arrivals} (record { gaps = g; sizes = s; at = a; count = n; last = m }) (arrivals_of ws)
  says-arrivals a b c d e = rw (a, b, c, d, e)

  pub says-links : {g : List ℕ} {a n : ℕ} {m : Option ℤ}
      → g ≡ sixteen_of ws 54 → a ≡ at ws 70 → n ≡ at ws 71 → m ≡ moment_of (at ws 72) (at ws 73)
      → ◌≡◌ {A = Links} (record { gaps = g; at = a; count = n; probe = m }) (links_of ws)
  says-links a b c d = rw (a, b, c, d)

  pub says-history : {a b c d e : ℕ}
      → a ≡ at ws 74 → b ≡ at ws 75 → c ≡ number_of (at ws 76) → d ≡ number_of (at ws 77) → e ≡ number_of (at ws 78)
      → ◌≡◌ {A = History} (record { start = a; count = b; first = c; largest = d; lastack = e }) (history_of ws)
  says-history a b c d e = rw (a, b, c, d, e)

  pub says-head : {z z₁ : ℤ} {w : Window} {n : ℕ} {d : Bool} {k : SynchronizedRemoteClock} {t : Rtt} {a : Arrivals} {l : Links} {y : History}
      → z ≡ whole_of (at ws 0) → z₁ ≡ z → w ≡ window_of ws → n ≡ number_of (at ws 6) → d ≡ flag_of (at ws 7) → k ≡ clock_of ws
      → t ≡ rtt_of ws → a ≡ arrivals_of ws → l ≡ links_of ws → y ≡ history_of ws
      → ◌≡◌ {A = Head} (record { latest = z₁; window = w; latency = n; dropping = d; clock = k; rtt = t; arrivals = a; links = l; history = y }) (head_of ws)
  unfolding head_of
  says-head a b c d e f g h i j = rw (b, a, c, d, e, f, g, h, i, j)

  -- the tests
  pub tests-first : {m x y : Bool}
      → m ≡ moment_formed (at ws 10) (at ws 11) → x ≡ float_formed (at ws 13) → y ≡ float_formed (at ws 14)
      → (number_formed (at ws 4)
      && number_formed (at ws 5)
      && number_formed (at ws 6)
      && flag_formed (at ws 7)
      && number_formed (at ws 9)
      && m
      && flag_formed (at ws 12)
      && x
      && y
      && number_formed (at ws 15))
      ≡ first_formed ws
  tests-first a b c = rw (a, b, c)

  pub tests-rates : {a b c : Bool} → a ≡ numbers_formed ws 18 16 → b ≡ numbers_formed ws 34 16 → c ≡ numbers_formed ws 54 16 → (a && b && c) ≡ rates_formed ws
  tests-rates a b c = rw (a, b, c)

  pub tests-last : {m n : Bool}
      → m ≡ moment_formed (at ws 52) (at ws 53) → n ≡ moment_formed (at ws 72) (at ws 73)
      → (number_formed (at ws 16)
      && number_formed (at ws 17)
      && m
      && n
      && number_formed (at ws 76)
      && number_formed (at ws 77)
      && number_formed (at ws 78))
      ≡ last_formed ws
  tests-last a b = rw (a, b)

  pub tests-all : {a b c : Bool} → a ≡ first_formed ws → b ≡ last_formed ws → (a && b) ≡ true → c ≡ rates_formed ws → c ≡ formed ws
  unfolding formed
  tests-all a b e c = rw (sym a, sym b, e, sym c)

  pub tests-not : {a b : Bool} → a ≡ first_formed ws → b ≡ last_formed ws → (a && b) ≡ false → false ≡ formed ws
  unfolding formed
  tests-not a b e = rw (sym a, sym b, e)

  pub says : {b : Bool} {h : Head} → b ≡ formed ws → b ≡ true → h ≡ head_of ws → h ≡ unpack_of ws
  unfolding unpack_of
  says p e q = rw (sym p ∙ e, q)

  pub says-not : {b : Bool} {h : Head} → b ≡ formed ws → b ≡ false → h ≡ nowhere → h ≡ unpack_of ws
  unfolding unpack_of
  says-not p e q = rw (sym p ∙ e, q)

pub ruleset says_all = (read-start, read-turn, read-end, test-start, test-turn, test-end, says-window, says-base, says-stats, says-clock, says-rtt, says-arrivals, says-links, says-history, says-head, tests-first, tests-rates, tests-last, tests-all, tests-not, says, says-not, rules)
