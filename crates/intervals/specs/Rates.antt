-- The two windows of intervals and their rates: 01, "Head and lent areas" and "ACKs, RTT, rates".
use Rattle.std.specs.Prelude.{Bool, true, ◌&&◌, cond, List, [], ◌∷◌, ℕ, zero, suc, ◌+◌, ◌-◌, ◌*◌, ◌/◌, ◌%◌, ◌^◌, min, eqb, ltb, leb, ℤ, get_or, set, replicate, Option, Some, None}
use Rattle.numbers.specs.Instants.{is_reading, since_time}
use Rattle.numbers.specs.Ring.{place_in}
use Rattle.intervals.specs.Median.{median_of}
use Rattle.intervals.specs.declared.rates.Arrivals.{Arrivals}
use Rattle.intervals.specs.declared.rates.Links.{Links}
use Rattle.intervals.specs.declared.rates.Kept.{Kept}
use Rattle.intervals.specs.declared.rates.Speed.{Speed}

-- a window is a ring of 16 places; `at` is the next to be written, so that the newest 16 stay
abbrev pub next_place : ℕ → ℕ
next_place at = place_in 16 at 1

abbrev pub count_after : ℕ → ℕ
count_after count = min (count + 1) 16

-- the window as a list, oldest first: its n-th newest stands n places before the next to be written
abbrev pub place_before : ℕ → ℕ → ℕ
place_before at n = place_in 16 at (16 - n)

unfoldable pub window_of : List ℕ → ℕ → ℕ → List ℕ
window_of l at zero = []
window_of l at (suc n) = get_or l (place_before at (suc n)) 0 ∷ window_of l at n

abbrev pub arrival_gaps : Arrivals → List ℕ
arrival_gaps a = window_of a.gaps a.at a.count

abbrev pub arrival_sizes : Arrivals → List ℕ
arrival_sizes a = window_of a.sizes a.at a.count

abbrev pub link_gaps : Links → List ℕ
link_gaps l = window_of l.gaps l.at l.count

-- fresh: counts 0, optional times unset
unfoldable pub fresh_arrivals : Arrivals
fresh_arrivals = record { gaps = replicate 16 0; sizes = replicate 16 0; at = 0; count = 0; last = None }

unfoldable pub fresh_links : Links
fresh_links = record { gaps = replicate 16 0; at = 0; count = 0; probe = None }

-- arrival: the interval since the last append without gap, if there was one, and the size enter the window
abbrev pub arrived_first : Arrivals → ℤ → Arrivals
arrived_first a now = record { gaps = a.gaps; sizes = a.sizes; at = a.at; count = a.count; last = Some now }

abbrev pub arrived_after : Arrivals → ℤ → ℕ → ℕ → Arrivals
arrived_after a now gap size =
    record {
      gaps = set a.gaps a.at gap;
      sizes = set a.sizes a.at size;
      at = next_place a.at;
      count = count_after a.count;
      last = Some now;
    }

abbrev pub arrived_since : Option ℤ → Arrivals → ℤ → ℕ → Arrivals
arrived_since None a now size = arrived_first a now
arrived_since (Some t) a now size = arrived_after a now (since_time now t) size

unfoldable pub arrival_of : Arrivals → ℤ → ℕ → Arrivals
arrival_of a now size = arrived_since a.last a now size

-- keep i with i / 8 < ai and i > ai / 8
abbrev pub keeps : ℕ → ℕ → Bool
keeps ai i = ltb (i / 8) ai && ltb (ai / 8) i

-- one interval more, with its size, if it is kept
unfoldable pub take_in : ℕ → ℕ → ℕ → Kept → Kept
take_in ai i size k = cond (keeps ai i) (record { count = k.count + 1; sum = k.sum + i; bytes = k.bytes + size }) k

-- how many of the first n are kept, the sum of their intervals, and of their sizes
unfoldable pub kept_of : List ℕ → List ℕ → ℕ → ℕ → Kept
kept_of gaps sizes ai zero = record { count = 0; sum = 0; bytes = 0 }
kept_of gaps sizes ai (suc n) = take_in ai (get_or gaps n 0) (get_or sizes n 0) (kept_of gaps sizes ai n)

-- packets = count × 1,000,000 / sum; bytes likewise
unfoldable pub rate_of : ℕ → ℕ → ℕ
rate_of n sum = n * 1000000 / sum

-- packets and bytes are known together
abbrev pub no_speed : Option Speed
no_speed = None

abbrev pub some_speed : ℕ → ℕ → Option Speed
some_speed packets bytes = Some (record { packets = packets; bytes = bytes })

-- at most 8 left, none
unfoldable pub speed_kept : Kept → Option Speed
speed_kept k = cond (leb k.count 8) no_speed (some_speed (rate_of k.count k.sum) (rate_of k.bytes k.sum))

-- newest 16 intervals (fewer: none), median index 8 = ai; they fill the ring, and where it begins does not matter
unfoldable pub speed_of : Arrivals → Option Speed
speed_of a = cond (ltb a.count 16) no_speed (speed_kept (kept_of a.gaps a.sizes (median_of a.gaps 8) 16))

-- link: an append of a number 16n sets the probe time; one of 16n + 1 records the interval since it, if set, and unsets it
abbrev pub with_probe : Links → Option ℤ → Links
with_probe l m = record { gaps = l.gaps; at = l.at; count = l.count; probe = m }

abbrev pub paired : Links → ℕ → Links
paired l gap = record { gaps = set l.gaps l.at gap; at = next_place l.at; count = count_after l.count; probe = None }

abbrev pub paired_since : Option ℤ → Links → ℤ → Links
paired_since None l now = with_probe l None
paired_since (Some t) l now = paired l (since_time now t)

unfoldable pub pair_of : Links → ℤ → Links
pair_of l now = paired_since l.probe l now

unfoldable pub link_of : Links → ℤ → ℕ → Links
link_of l now number = cond (eqb (number % 16) 0) (with_probe l (Some now)) (cond (eqb (number % 16) 1) (pair_of l now) l)

-- newest 16 likewise, median index 7, 1,000,000 / median truncated; 0 gives 4,294,967,295
unfoldable pub link_rate : ℕ → ℕ
link_rate m = cond (eqb m 0) 4294967295 (1000000 / m)

unfoldable pub capacity_of : Links → Option ℕ
capacity_of l = cond (ltb l.count 16) None (Some (link_rate (median_of l.gaps 7)))

-- windows of at most 16 intervals (each 0..2^31-1, size at most 1,456); probe and arrival times are readings
unfoldable pub all_under : ℕ → List ℕ → Bool
all_under b [] = true
all_under b (x ∷ l) = ltb x b && all_under b l

abbrev pub time_ok : Option ℤ → Bool
time_ok None = true
time_ok (Some t) = is_reading t

abbrev pub intervals_ok : List ℕ → ℕ → ℕ → Bool
intervals_ok gaps at count = leb count 16 && ltb at 16 && all_under (2 ^ 31) (window_of gaps at count)

unfoldable pub arrivals_ok : Arrivals → Bool
arrivals_ok a = intervals_ok a.gaps a.at a.count && all_under 1457 (arrival_sizes a) && time_ok a.last

unfoldable pub links_ok : Links → Bool
links_ok l = intervals_ok l.gaps l.at l.count && time_ok l.probe
