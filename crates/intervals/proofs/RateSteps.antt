-- What the code of rates.rt does at each return and each turn, as laws over plain values; the proof files hand them to `search`. A signed number stands
-- twice, as it is (`now`) and as the machine reads it back (`n`). Assumes nothing.
use mathlib.Core.Path.{◌≡◌, refl, sym, ◌∙◌}
use mathlib.Core.Bool.{Bool, true, false, ◌&&◌}
use mathlib.Core.List.{List, [], ◌∷◌}
use Prim.Native.Nat.{ℕ, ◌+◌, ◌*◌, ◌/◌, ◌%◌, ◌^◌, ◌<◌, ◌≤◌}
use native.Mathlib.Nat.{div-le_of_le-mul}
use native.Mathlib.Numerals.{add-one}
use native.Mathlib.Omega.{arith}
use borrow.Author.Rules.{rules}
use borrow.Author.Tests.{eq-eqb, ne_eqb, lt-ltb, le-ltb, le-leb, lt-leb}
use lib.Dec.{ltb}
use lib.IntN.{ℤ}
use lib.ListN.{length, get_or, set, replicate}
use mir.Syntax.{w32}
use mir.Val.{Fits}
use Rattle.numbers.specs.Instants.{is_reading, since_time}
use Rattle.std.specs.Prelude.{Option, Some, None}
use Rattle.numbers.proofs.Flags.{by-test}
use Rattle.intervals.specs.Median.{median_of}
use Rattle.intervals.specs.Rates.{next_place, count_after, fresh_arrivals, fresh_links, arrived_first, arrival_of, keeps, take_in, kept_of, rate_of, no_speed, some_speed, speed_kept, speed_of, with_probe, pair_of, link_of, link_rate, capacity_of, place_before, window_of, arrival_sizes, all_under, time_ok, intervals_ok, arrivals_ok, links_ok}
use Rattle.std.specs.List.{fold}
use Rattle.intervals.specs.declared.rates.Arrivals.{Arrivals}
use Rattle.intervals.specs.declared.rates.Links.{Links}
use Rattle.intervals.specs.declared.rates.Kept.{Kept}
use Rattle.intervals.proofs.Windows.{under-place, under-sixteen, interval-ranges, arrival-ranges, kept-count, kept-sum, kept-bytes}

-- the constructors
pub fresh-arrivals : ◌≡◌ {A = Arrivals} (record { gaps = replicate 16 0; sizes = replicate 16 0; at = 0; count = 0; last = None }) fresh_arrivals
unfolding fresh_arrivals
fresh-arrivals = refl

pub fresh-links : ◌≡◌ {A = Links} (record { gaps = replicate 16 0; at = 0; count = 0; probe = None }) fresh_links
unfolding fresh_links
fresh-links = refl

-- record of Arrivals
module _ (a : Arrivals) (now : ℤ) (size : ℕ) where
  pub arrives-first : {m : Option ℤ} {n : ℤ} → m ≡ a.last → m ≡ None → n ≡ now → arrived_first a n ≡ arrival_of a now size
  unfolding arrival_of
  arrives-first e f p = rw (← e, f, p)

  pub arrives : {m : Option ℤ} {t t₁ n n₁ : ℤ} {g count : ℕ}
      → m ≡ a.last → m ≡ Some t → g ≡ since_time n t₁ → n ≡ now → t₁ ≡ t → n₁ ≡ now → count ≡ count_after a.count
      → ◌≡◌ {A = Arrivals} (record { gaps = set a.gaps a.at g; sizes = set a.sizes a.at size; at = next_place a.at; count = count; last = Some n₁ }) (arrival_of a now size)
  unfolding arrival_of
  arrives e f g p q p₁ c = rw (← e, f, g, p, q, p₁, c)

-- pair and record of Links
module _ (l : Links) (now : ℤ) where
  pub pairs-none : {m : Option ℤ} → m ≡ l.probe → m ≡ None → with_probe l None ≡ pair_of l now
  unfolding pair_of
  pairs-none e f = rw (← e, f)

  pub pairs : {m : Option ℤ} {t t₁ n : ℤ} {g count : ℕ}
      → m ≡ l.probe → m ≡ Some t → g ≡ since_time n t₁ → n ≡ now → t₁ ≡ t → count ≡ count_after l.count
      → ◌≡◌ {A = Links} (record { gaps = set l.gaps l.at g; at = next_place l.at; count = count; probe = None }) (pair_of l now)
  unfolding pair_of
  pairs e f g p q c = rw (← e, f, g, p, q, c)

  module _ (number : ℕ) where
    pub probes : {n : ℤ} → number % 16 ≡ 0 → n ≡ now → with_probe l (Some n) ≡ link_of l now number
    unfolding link_of
    probes h p = rw (eq-eqb _ _ h, p)

    pub pairs-up : {n : ℤ} {r : Links} → (number % 16 ≡ 0 → ⊥) → number % 16 ≡ 1 → r ≡ pair_of l n → n ≡ now → r ≡ link_of l now number
    unfolding link_of
    pairs-up h k e p = rw (ne_eqb _ _ h, eq-eqb _ _ k, e, p)

    pub no-link : (number % 16 ≡ 0 → ⊥) → (number % 16 ≡ 1 → ⊥) → l ≡ link_of l now number
    unfolding link_of
    no-link h k = rw (ne_eqb _ _ h, ne_eqb _ _ k)

-- take_in, and the loop of keep: its start, a turn with its bounds, its end
module _ (ai i size : ℕ) (k : Kept) {b : Bool} (e : b ≡ keeps ai i) where
  pub takes : b ≡ true → ◌≡◌ {A = Kept} (record { count = k.count + 1; sum = k.sum + i; bytes = k.bytes + size }) (take_in ai i size k)
  unfolding take_in
  takes t = rw (← e, t)

  pub leaves : b ≡ false → k ≡ take_in ai i size k
  unfolding take_in
  leaves t = rw (← e, t)

pub keep-start : (gaps sizes : List ℕ) (ai : ℕ) → ◌≡◌ {A = Kept} (record { count = 0; sum = 0; bytes = 0 }) (kept_of gaps sizes ai 0)
unfolding kept_of
keep-start gaps sizes ai = refl

pub keep-again : (gaps sizes : List ℕ) (ai n : ℕ) {k r : Kept} → k ≡ kept_of gaps sizes ai n → r ≡ take_in ai (get_or gaps n 0) (get_or sizes n 0) k → r ≡ kept_of gaps sizes ai (n + 1)
unfolding kept_of
keep-again gaps sizes ai n e f = rw (add-one n, ← e) f

pub keep-done : (gaps sizes : List ℕ) (ai n : ℕ) {k : Kept} → k ≡ kept_of gaps sizes ai n → n ≤ 16 → 16 ≤ n → k ≡ kept_of gaps sizes ai 16
keep-done gaps sizes ai n e h l = let z : n ≡ 16 = omega arith in rw z at e

module _ (ai i size n : ℕ) (k r : Kept) (e : r ≡ take_in ai i size k) where
  taken : (P : Kept → Type 0) → P (record { count = k.count + 1; sum = k.sum + i; bytes = k.bytes + size }) → P k → P r
  unfolding take_in
  taken P x y = rw e (by-test P (keeps ai i) _ _ (λ t. x) (λ t. y))

  pub take_count : k.count ≤ n → r.count ≤ n + 1
  take_count h = taken (λ (k : Kept). k.count ≤ n + 1) (omega arith) (omega arith)

  pub take-sum : k.sum ≤ n * 4294967296 → Fits w32 i → r.sum ≤ (n + 1) * 4294967296
  take-sum h f = taken (λ (k : Kept). k.sum ≤ (n + 1) * 4294967296) (omega (arith, f.fits)) (omega arith)

  pub take-bytes : k.bytes ≤ n * 4294967296 → Fits w32 size → r.bytes ≤ (n + 1) * 4294967296
  take-bytes h f = taken (λ (k : Kept). k.bytes ≤ (n + 1) * 4294967296) (omega (arith, f.fits)) (omega arith)

-- rate, link_rate
pub rate-fits : (n sum : ℕ) → 0 < sum → n ≤ 1456 * sum → Fits w32 (n * 1000000 / sum)
rate-fits n sum h k =
    let d : n * 1000000 / sum ≤ 1456000000 = div-le_of_le-mul sum (omega arith) in
    record { fits = omega arith }

pub rate-is : (n sum : ℕ) → n * 1000000 / sum ≡ rate_of n sum
unfolding rate_of
rate-is n sum = refl

pub link-none : (m : ℕ) → m ≡ 0 → 4294967295 ≡ link_rate m
unfolding link_rate
link-none m e = rw (eq-eqb _ _ e)

pub link-some : (m : ℕ) → (m ≡ 0 → ⊥) → 1000000 / m ≡ link_rate m
unfolding link_rate
link-some m e = rw (ne_eqb _ _ e)

-- every: a fold over the whole list, from the left
every-from : (b : ℕ) (l : List ℕ) (ok : Bool) → fold (λ ok x. ok && ltb x b) ok l ≡ (ok && all_under b l)
unfolding all_under
every-from b [] true = refl
every-from b [] false = refl
every-from b (x ∷ l) true = every-from b l (ltb x b)
every-from b (x ∷ l) false = every-from b l false

pub every-is : (b : ℕ) (l : List ℕ) {ok : Bool} → ok ≡ fold (λ ok x. ok && ltb x b) true l → ok ≡ all_under b l
every-is b l e = e ∙ every-from b l true

-- all_under
pub under_all : (b : ℕ) (l : List ℕ) (at count : ℕ) {ok : Bool} → ok ≡ all_under b l → ok ≡ true → length l ≡ 16 → true ≡ all_under b (window_of l at count)
under_all b l at count e t k = sym (under-sixteen b l at count k (sym e ∙ t))

-- the loop of window_under: its start, a turn, its end
pub under-start : (b : ℕ) (l : List ℕ) (at : ℕ) → true ≡ all_under b (window_of l at 0)
unfolding all_under window_of
under-start b l at = refl

pub under-again : (b : ℕ) (l : List ℕ) (at n : ℕ) {ok : Bool} → ok ≡ all_under b (window_of l at n) → (ltb (get_or l (place_before at (n + 1)) 0) b && ok) ≡ all_under b (window_of l at (n + 1))
unfolding all_under window_of
under-again b l at n e = rw (add-one n, e)

pub under-done : (b : ℕ) (l : List ℕ) (at n count : ℕ) {ok : Bool} → ok ≡ all_under b (window_of l at n) → n ≤ count → count ≤ n → ok ≡ all_under b (window_of l at count)
under-done b l at n count e h k = let z : n ≡ count = omega arith in rw z at e

-- time_ok
pub time-test : {m : Option ℤ} {t t₁ : ℤ} {b : Bool} → m ≡ Some t → b ≡ is_reading t₁ → t₁ ≡ t → b ≡ time_ok m
time-test e f p = rw (e, ← p) f

-- speed
module _ (gaps sizes : List ℕ) (ai : ℕ) (k : Kept) (e : k ≡ kept_of gaps sizes ai 16) where
  pub sum-some : 8 < k.count → 0 < k.sum
  sum-some h = let l : k.count ≤ k.sum = rw e (kept-sum gaps sizes ai 16) in omega arith

  pub count-near : k.count ≤ 1456 * k.sum
  count-near = let l : k.count ≤ k.sum = rw e (kept-sum gaps sizes ai 16) in omega arith

  pub count_small : k.count < 2 ^ 40
  count_small = let l : k.count ≤ 16 = rw e (kept-count gaps sizes ai 16) in omega arith

module _ (a : Arrivals) (ai : ℕ) (k : Kept) (o : arrivals_ok a ≡ true) (h : 16 ≤ a.count) (e : k ≡ kept_of a.gaps a.sizes ai 16) where
  sizes-under : (i : ℕ) → i < 16 → get_or a.sizes i 0 < 1457
  sizes-under i l =
      let r = arrival-ranges a o in
      let p : a.count ≡ 16 = omega (arith, r.intervals.holds) in
      under-place 1457 a.sizes a.at i r.intervals.place l (rw p at r.sizes)

  bytes_most : k.bytes ≤ 1456 * k.count
  bytes_most = rw e (kept-bytes a.gaps a.sizes ai sizes-under 16 (omega arith))

  pub bytes-near : k.bytes ≤ 1456 * k.sum
  bytes-near = let l : k.count ≤ k.sum = rw e (kept-sum a.gaps a.sizes ai 16) in omega (arith, bytes_most)

  pub bytes_small : k.bytes < 2 ^ 40
  bytes_small = let l : k.count ≤ 16 = rw e (kept-count a.gaps a.sizes ai 16) in omega (arith, bytes_most)

module _ (a : Arrivals) where
  pub speed-few : a.count < 16 → no_speed ≡ speed_of a
  unfolding speed_of
  speed-few h = rw (lt-ltb _ _ h)

  module _ {ai : ℕ} {k : Kept} (h : 16 ≤ a.count) (e : ai ≡ median_of a.gaps 8) (f : k ≡ kept_of a.gaps a.sizes ai 16) where
    pub speed-none : k.count ≤ 8 → no_speed ≡ speed_of a
    unfolding speed_of speed_kept
    speed-none l = rw (le-ltb _ _ h, ← e, ← f, le-leb _ _ l)

    pub speed-some : {packets bytes : ℕ} → 8 < k.count → packets ≡ rate_of k.count k.sum → bytes ≡ rate_of k.bytes k.sum → some_speed packets bytes ≡ speed_of a
    unfolding speed_of speed_kept
    speed-some l p q = rw (le-ltb _ _ h, ← e, ← f, lt-leb _ _ l, p, q)

-- capacity
module _ (l : Links) where
  pub capacity-few : l.count < 16 → None ≡ capacity_of l
  unfolding capacity_of
  capacity-few h = rw (lt-ltb _ _ h)

  pub capacity-some : {m r : ℕ} → 16 ≤ l.count → m ≡ median_of l.gaps 7 → r ≡ link_rate m → Some r ≡ capacity_of l
  unfolding capacity_of
  capacity-some h e f = rw (le-ltb _ _ h, ← e, f)

-- intervals_ok, and in_range
module _ (gaps : List ℕ) (at count : ℕ) where
  pub intervals-count : 16 < count → false ≡ intervals_ok gaps at count
  intervals-count h = rw (lt-leb _ _ h)

  pub intervals-place : count ≤ 16 → 16 ≤ at → false ≡ intervals_ok gaps at count
  intervals-place h k = rw (le-leb _ _ h, le-ltb _ _ k)

  pub intervals-test : {g : Bool} → count ≤ 16 → at < 16 → g ≡ all_under (2 ^ 31) (window_of gaps at count) → g ≡ intervals_ok gaps at count
  intervals-test h k e = rw (le-leb _ _ h, lt-ltb _ _ k) e

  module _ {b : Bool} (e : b ≡ intervals_ok gaps at count) (t : b ≡ true) where
    pub intervals-place-by : at < 16
    intervals-place-by = (interval-ranges gaps at count (sym e ∙ t)).place

    pub intervals-count-by : count ≤ 16
    intervals-count-by = (interval-ranges gaps at count (sym e ∙ t)).holds

module _ (a : Arrivals) {b : Bool} (e : b ≡ intervals_ok a.gaps a.at a.count) where
  pub arrivals-out : b ≡ false → false ≡ arrivals_ok a
  unfolding arrivals_ok
  arrivals-out t = rw (← e, t)

  pub arrivals-test : {s t : Bool} → b ≡ true → s ≡ all_under 1457 (arrival_sizes a) → t ≡ time_ok a.last → (s && t) ≡ arrivals_ok a
  unfolding arrivals_ok
  arrivals-test u f i = rw (← e, u, f, i)

pub links-test : (l : Links) {g t : Bool} → g ≡ intervals_ok l.gaps l.at l.count → t ≡ time_ok l.probe → (g && t) ≡ links_ok l
unfolding links_ok
links-test l e f = rw (e, f)

pub ruleset rateSteps = (
  fresh-arrivals,
  fresh-links,
  arrives-first,
  arrives,
  pairs-none,
  pairs,
  probes,
  pairs-up,
  no-link,
  takes,
  leaves,
  keep-start,
  keep-again,
  keep-done,
  take_count,
  take-sum,
  take-bytes,
  rate-fits,
  rate-is,
  link-none,
  link-some,
  every-is,
  under_all,
  under-start,
  under-again,
  under-done,
  time-test,
  sum-some,
  count-near,
  count_small,
  bytes-near,
  bytes_small,
  speed-few,
  speed-none,
  speed-some,
  capacity-few,
  capacity-some,
  intervals-count,
  intervals-place,
  intervals-test,
  intervals-place-by,
  intervals-count-by,
  arrivals-out,
  arrivals-test,
  links-test,
  rules,
)
