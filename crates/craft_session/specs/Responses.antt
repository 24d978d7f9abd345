-- The bytes of responses, cut into blocks.
use Rattle.std.specs.Prelude.{◌≡◌, ℕ, List, [], ◌∷◌, ◌++◌, Option, Some, None, map, option_to_list, codes, decimal}
use Rattle.dxc_num.specs.declared.port.Middle.{Middle}
use Rattle.dxc_num.specs.Dimensions.{Dimensions}
use Rattle.dxc_model.specs.declared.user.Class.{Class}
use Rattle.dxc_model.specs.declared.user.Class.TheVariants.{R, P, S}
use Rattle.dxc_outside.specs.declared.clock.Moment.{Moment}
use Rattle.dxc_outside.specs.declared.send.Sent.{Sent}
use Rattle.dxc_outside.specs.declared.send.Sent.TheVariants.{Whole, Cut}
use Rattle.dxc_outside.specs.Links.{LinkState, IsSent, Wrote}
use Rattle.dxc_notes.specs.declared.standing.SessionAt.{SessionAt}
use Rattle.dxc_notes.specs.declared.standing.Standby.{Standby}
use Rattle.dxc_notes.specs.declared.standing.Standby.TheVariants.{Unnamed, Joined, Circuits, Lost}
use Rattle.dxc_notes.specs.declared.standing.Standing.{Standing}
use Rattle.tl1_answer.specs.declared.answer.Code.{Code}
use Rattle.tl1_answer.specs.declared.answer.Code.TheVariants.{Compld, Deny}
use Rattle.tl1_answer.specs.Blocks.{Draft, IsUnended}
use Rattle.tl1_answer.specs.Responses.{blocks_from, joined, response, denial}
use Rattle.tl1_answer.specs.Messages.{report}
use Rattle.tl1_answer.specs.Texts.{change_text, middle_text, module_text, row_text, session_text, start_text, value_text}
use Rattle.tl1_command.specs.declared.command.Subject.{Subject}
use Rattle.tl1_command.specs.declared.command.Subject.TheVariants as subject
use Rattle.user_admin.specs.declared.op.UserRow.{UserRow}
use Rattle.craft_session.specs.Notices.{Notice, change, lost}
use Rattle.craft_session.specs.Asks.{Reply, completed, completed_rows, shown, restarted, denied}

-- the completion code of a reply
abbrev pub code_of : Reply → Code
code_of completed = Compld
code_of (completed_rows cs) = Compld
code_of (shown what equipped out) = Compld
code_of restarted = Compld
code_of (denied q) = Deny

abbrev pub class_text : Class → List ℕ
class_text R = codes "R"
class_text P = codes "P"
class_text S = codes "S"

-- a user's name and class
abbrev pub user_text : UserRow → List ℕ
user_text u = codes "\"" ++ u.uid ++ codes ":" ++ class_text u.class ++ codes "\""

-- the rows of version, start and standby, and of a session
abbrev pub version_text : List ℕ → List ℕ
version_text v = value_text (codes "VERSION") v

abbrev pub state_text : Standby → List ℕ
state_text Unnamed = codes "NONE"
state_text Joined = codes "JOINED"
state_text Circuits = codes "CIRCUITS"
state_text Lost = codes "LOST"

abbrev pub standby_text : Standby → List ℕ
standby_text s = value_text (codes "STANDBY") (state_text s)

abbrev pub logged_in_text : SessionAt → List ℕ
logged_in_text s = session_text s.place s.user (class_text s.class)

-- the rows of what stands of the program: of version and start, of the standby, and of each session
abbrev pub start_lines : Standing → List (List ℕ)
start_lines x = map version_text (option_to_list x.version) ++ map start_text (option_to_list x.since)

abbrev pub state_lines : Standing → List (List ℕ)
state_lines x = start_lines x ++ map standby_text (option_to_list x.standby)

abbrev pub program_lines : Standing → List (List ℕ)
program_lines x = state_lines x ++ map logged_in_text x.sessions.items

abbrev pub told_lines : Option Standing → List (List ℕ)
told_lines None = []
told_lines (Some x) = program_lines x

-- what a response is made of besides the reply: the rows of users that were read, and what stands of the program
pub record Beside : Type 0 where
  pub users : List UserRow
  pub stands : Option Standing

abbrev pub beside : List UserRow → Option Standing → Beside
beside users stands = record { users = users; stands = stands }

-- the rows of equipped modules, and of a middle that is out
abbrev pub equipment_lines : (equipped : List ℕ) → (out : Option Middle) → List (List ℕ)
equipment_lines equipped out = map module_text equipped ++ map middle_text (option_to_list out)

-- the rows of what is asked to be shown
abbrev pub shown_lines : Subject → (equipped : List ℕ) → (out : Option Middle) → Option Standing → List (List ℕ)
shown_lines subject.Middle equipped out stands = map middle_text (option_to_list out)
shown_lines subject.System equipped out stands = equipment_lines equipped out ++ told_lines stands

-- its text lines; a users' command may have rows of users
abbrev pub lines_of : Dimensions → Beside → Reply → List (List ℕ)
lines_of d x completed = map user_text x.users
lines_of d x (completed_rows cs) = map (row_text d) cs
lines_of d x (shown what equipped out) = shown_lines what equipped out x.stands
lines_of d x restarted = codes "\"WARM\"" ∷ []
lines_of d x (denied q) = denial q

-- the bytes of a reply's response
abbrev pub reply_bytes : List ℕ → Dimensions → Moment → Option (List ℕ) → Beside → Reply → List ℕ
reply_bytes sid d m tag x r = response sid m tag (code_of r) (lines_of d x r)

-- the text of a report of lost changes
abbrev pub lost_text : ℕ → List ℕ
lost_text n = codes "\"LOST=" ++ decimal n ++ codes "\""

-- the bytes of a report
abbrev pub notice_bytes : List ℕ → Dimensions → Moment → Notice → List ℕ
notice_bytes sid d m (change n c) = report sid m n (change_text d c)
notice_bytes sid d m (lost newest count) = report sid m newest (lost_text count)

-- the bytes of the blocks that are still to come, where the one in hand holds these bytes and these lines follow
unfoldable pub bytes_from : List ℕ → List ℕ → List (List ℕ) → List ℕ
bytes_from front bytes lines = joined (blocks_from front bytes lines)

-- lines were added to a block: what was written of blocks that were full, and what the block holds then
pub record Filled (told : Type 0) (k j : LinkState) (old new : Draft) (lines : List (List ℕ)) : Type 0 where
  pub full : List ℕ
  pub wrote : Wrote told k j full
  pub no_fault : j.write_faults ≡ k.write_faults
  pub same : new.head ≡ old.head
  pub unended : IsUnended new
  pub goes_on : (more : List (List ℕ)) → bytes_from old.head old.bytes (lines ++ more) ≡ full ++ bytes_from old.head new.bytes more

-- lines were added, or a block that was full was cut
abbrev pub Fills : (told : Type 0) (k j : LinkState) (sent : Sent) (old new : Draft) (lines : List (List ℕ)) → Type 0
Fills told k j Whole old new lines = Filled told k j old new lines
Fills told k j Cut old new lines = (more : List (List ℕ)) → IsSent told k j Cut (bytes_from old.head old.bytes (lines ++ more))

-- what became of an answer to which lines were added
pub record Addition : Type 0 where
  pub sent : Sent
  pub old : Draft
  pub new : Draft

abbrev pub addition : Sent → Draft → Draft → Addition
addition sent old new = record { sent = sent; old = old; new = new }

abbrev pub Adds : (told : Type 0) (before after : LinkState) → Addition → (lines : List (List ℕ)) → Type 0
Adds told k j a lines = Fills told k j a.sent a.old a.new lines
