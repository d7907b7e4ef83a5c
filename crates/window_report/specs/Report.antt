-- The loss report: 01, "Window", from "Loss report: lost entries" to "No entry, no report."
use Rattle.std.specs.Prelude.{Bool, false, cond, List, ℕ, zero, suc, ◌+◌, ◌-◌, ◌*◌, ◌^◌, min, ltb, eqb, ℤ, pos, nat_abs, ◌+ℤ◌, length, set, Option, Some, None, Result, Ok, Err}
use Rattle.std.specs.Int.Signed.{lt_z}
use Rattle.slots.specs.Words.{entry_at, write_report}
use Rattle.slots.specs.Ring.{slot_of}
use Rattle.slots.specs.declared.entry.Entry.{Entry}
use Rattle.slots.specs.declared.entry.Entry.TheVariants.{Lost, Received, GivenUp}
use Rattle.window.specs.Window.{number_in}
use Rattle.window.specs.declared.Window.{Window}
use Rattle.window_report.specs.declared.report.Runs.{Runs}
use Rattle.window_report.specs.declared.report.ListShort.{ListShort}

-- all that a report leaves: how many words it has, if there is one, or refusal 12; the slot area and the list of loss words
pub record ReportOutcome : Type 0 where
  pub answer : Result (Option ℕ) ListShort
  pub slots : List ℕ
  pub list : List ℕ

abbrev pub report_ended : Result (Option ℕ) ListShort → List ℕ → List ℕ → ReportOutcome
report_ended r ws list = record { answer = r; slots = ws; list = list }

-- lost entries with now > feedback + k × mean RTT
unfoldable pub is_due : ℤ → ℕ → Entry → Bool
is_due time mean (Lost k f) = lt_z (pos f +ℤ pos (k * mean)) time
is_due time mean (Received n l m t) = false
is_due time mean GivenUp = false

-- each gets k + 1 (at most 65,535), and, in `slots_to`, feedback now, as a word, which has no sign
abbrev pub k_after : Entry → ℕ
k_after (Lost k f) = min (k + 1) 65535
k_after (Received n l m t) = 0
k_after GivenUp = 0

-- words so far, and the run that is open before entry i: its first entry. A run of one is one word, a run of two or more two
abbrev pub words_of : Option ℕ → ℕ → ℕ
words_of (Some first) i = cond (eqb (first + 1) i) 1 2
words_of None i = 0

abbrev pub run_words : Runs → ℕ → ℕ
run_words r i = words_of r.first i

-- the first entry of the run that entry i goes on with or begins
abbrev pub first_at : Option ℕ → ℕ → ℕ
first_at (Some first) i = first
first_at None i = i

abbrev pub closed : Runs → ℕ → Runs
closed r i = record { words = r.words + run_words r i; first = None }

abbrev pub runs_after : Runs → ℕ → Bool → Runs
runs_after r i due = cond due (record { words = r.words; first = Some (first_at r.first i) }) (closed r i)

-- a single number; a run of two or more consecutive as first with bit 31 set, then last
abbrev pub run_at : Window → List ℕ → ℕ → Option ℕ → ℕ → List ℕ
run_at w list at (Some first) i =
    cond (eqb (first + 1) i)
    (set list at (number_in w first))
    (set (set list at (2 ^ 31 + number_in w first)) (at + 1) (number_in w (i - 1)))
run_at w list at None i = list

unfoldable pub run_put : Window → List ℕ → Runs → ℕ → List ℕ
run_put w list r i = run_at w list r.words r.first i

module _ (w : Window) (ws : List ℕ) (time : ℤ) (mean : ℕ) where
  -- the slot of entry i, and whether it is due
  abbrev pub slot_no : ℕ → ℕ
  slot_no i = slot_of w.capacity w.start i

  abbrev pub due_at : ℕ → Bool
  due_at i = is_due time mean (entry_at ws (slot_no i))

  -- the slot area after the first i entries
  unfoldable pub slots_to : ℕ → List ℕ
  slots_to zero = ws
  slots_to (suc i) = cond (due_at i) (write_report (slots_to i) (slot_no i) (k_after (entry_at ws (slot_no i))) (nat_abs time)) (slots_to i)

  -- the runs of the first i entries, and the words that all of them need
  unfoldable pub runs_to : ℕ → Runs
  runs_to zero = record { words = 0; first = None }
  runs_to (suc i) = runs_after (runs_to i) i (due_at i)

  abbrev pub needed : ℕ
  needed = (closed (runs_to w.held) w.held).words

  -- the list after the first i entries: a run is written when it has ended
  unfoldable pub list_to : List ℕ → ℕ → List ℕ
  list_to list zero = list
  list_to list (suc i) = cond (due_at i) (list_to list i) (run_put w (list_to list i) (runs_to i) i)

  -- with the run that is going on at the end
  abbrev pub list_all : List ℕ → List ℕ
  list_all list = run_put w (list_to list w.held) (runs_to w.held) w.held

  -- no entry, no report; refusal 12 if the report needs more words than lent
  unfoldable pub report_of : List ℕ → ReportOutcome
  report_of list =
      cond (eqb needed 0)
      (report_ended (Ok None) ws list)
      (cond (ltb (length list) needed)
      (report_ended (Err (record {})) ws list)
      (report_ended (Ok (Some needed)) (slots_to w.held) (list_all list)))
