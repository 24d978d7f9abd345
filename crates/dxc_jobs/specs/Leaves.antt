-- What jobs leave.
-- a job left this after a run, and what it let go was as the run made it
abbrev pub left_by : {J D L : Type 0} → (J → D → L → Type 0) → J → L → Type 0
left_by {J} {D} {L} ran job left = (done : D) × ran job done left
