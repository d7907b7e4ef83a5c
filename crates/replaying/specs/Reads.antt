-- The steps of the loop: what is at hand and what is still to be written out after each, and whether the loop goes on. `last` is told by a read that gave no
-- byte and by no other, and after the lines were written out none of them is left and the loop goes on.
use Rattle.std.specs.Prelude.{◌≡◌, ℕ, ◌+◌, ◌-◌, ◌==◌, false, ⊤, Option, Some, None, Result, Ok, Err, replicate}
use Rattle.std.specs.List.{copy_within}
use Rattle.trace.specs.declared.Trace.{Trace}
use Rattle.trace.specs.declared.Status.{Status}
use Rattle.trace.specs.declared.Status.TheVariants as statuses
use Rattle.replaying.specs.declared.held.Hand.{Hand}
use Rattle.replaying.specs.declared.held.Lines.{Lines}
use Rattle.replaying.specs.declared.End.{End}
use Rattle.replaying.specs.declared.End.TheVariants as ends
use Rattle.replaying.specs.declared.Failure.{Failure}
use Rattle.replaying.specs.declared.Failure.TheVariants as failures
use Rattle.replaying.specs.declared.Replay.{Replay}

-- nothing is at hand, and the file may have bytes
pub record Fresh (h : Hand) : Type 0 where
  pub bytes : h.bytes ≡ replicate 65536 0
  pub at : h.at ≡ 0
  pub end : h.end ≡ 0
  pub last : h.last ≡ false

-- the cursor is at another place
pub record Moved (h : Hand) (place : ℕ) (h₁ : Hand) : Type 0 where
  pub bytes : h₁.bytes ≡ h.bytes
  pub at : h₁.at ≡ place
  pub end : h₁.end ≡ h.end
  pub last : h₁.last ≡ h.last

-- the unread bytes also stand at the front; the cursor is not told yet
pub record Shifted (h : Hand) (h₁ : Hand) : Type 0 where
  pub bytes : h₁.bytes ≡ copy_within h.bytes h.at h.end 0
  pub at : h₁.at ≡ h.at
  pub end : h₁.end ≡ h.end
  pub last : h₁.last ≡ h.last

-- n bytes were read behind those kept
pub record Filled (h : Hand) (kept n : ℕ) (h₁ : Hand) : Type 0 where
  pub bytes : h₁.bytes ≡ h.bytes
  pub at : h₁.at ≡ 0
  pub end : h₁.end ≡ kept + n
  pub last : h₁.last ≡ (n == 0)

-- what a read gave, behind those kept, or why it failed, which leaves all
abbrev pub Took : {E : Type 0} → Hand → ℕ → Result ℕ E → Hand → Result Unit E → Type 0
Took h kept (Ok n) h₁ x = (x ≡ Ok tt) × Filled h kept n h₁
Took h kept (Err e) h₁ x = (x ≡ Err e) × (h₁ ≡ h)

-- a read that failed leaves the cursors
pub record Unfilled (h : Hand) (h₁ : Hand) : Type 0 where
  pub at : h₁.at ≡ h.at
  pub end : h₁.end ≡ h.end
  pub last : h₁.last ≡ h.last

-- a read that did not fail: the cursor is at the front, and the file has no more if no byte came
pub record Refilled (h : Hand) (h₁ : Hand) : Type 0 where
  pub at : h₁.at ≡ 0
  pub last : h₁.last ≡ (h₁.end == h.end - h.at)

pub record Blank (l : Lines) : Type 0 where
  pub text : l.text ≡ replicate 65536 0
  pub used : l.used ≡ 0

pub record Added (l : Lines) (n : ℕ) (l₁ : Lines) : Type 0 where
  pub text : l₁.text ≡ l.text
  pub used : l₁.used ≡ l.used + n

pub record Flushed (l l₁ : Lines) : Type 0 where
  pub text : l₁.text ≡ l.text
  pub used : l₁.used ≡ 0

-- what a write said: the lines are written out, or why it failed, which leaves them
abbrev pub Written : {E : Type 0} → Lines → Result Unit E → Lines → Result Unit E → Type 0
Written l (Ok u) l₁ x = (x ≡ Ok tt) × Flushed l l₁
Written l (Err e) l₁ x = (x ≡ Err e) × (l₁ ≡ l)

-- What a turn's status brings: a line and room for it go on, more bytes go on once they are read, and a file that has ended ends the loop. What fails is a read
-- where bytes were wanted, and a write where room was.
abbrev pub IsUnread : Failure → Type 0
IsUnread (failures.Unread e) = ⊤
IsUnread (failures.Unwritten e) = ◌≡◌ {A = ℕ} 0 1

abbrev pub IsUnwritten : Failure → Type 0
IsUnwritten (failures.Unread e) = ◌≡◌ {A = ℕ} 0 1
IsUnwritten (failures.Unwritten e) = ⊤

-- more bytes for the header or for a turn
abbrev pub Came : Replay → Replay → Result Unit Failure → Type 0
Came r r₁ (Ok u) = Refilled r.hand r₁.hand × (r₁.lines ≡ r.lines) × (r₁.areas ≡ r.areas)
Came r r₁ (Err failure) = IsUnread failure × Unfilled r.hand r₁.hand × (r₁.lines ≡ r.lines) × (r₁.areas ≡ r.areas)

abbrev pub Served : Status → Trace → Replay → Replay → Result (Option End) Failure → Type 0
Served statuses.Line t r r₁ x = (x ≡ Ok None) × (r₁ ≡ r)
Served statuses.More t r r₁ (Ok end) = (end ≡ None) × Came r r₁ (Ok tt)
Served statuses.More t r r₁ (Err failure) = Came r r₁ (Err failure)
Served statuses.LineShort t r r₁ (Ok end) = (end ≡ None) × Flushed r.lines r₁.lines × (r₁.hand ≡ r.hand) × (r₁.areas ≡ r.areas)
Served statuses.LineShort t r r₁ (Err failure) = IsUnwritten failure × (r₁ ≡ r)
Served statuses.End t r r₁ x = (x ≡ Ok (Some ends.Whole)) × (r₁ ≡ r)
Served statuses.Bad t r r₁ x = (x ≡ Ok (Some (ends.BadRecord t.offset t.count))) × (r₁ ≡ r)
