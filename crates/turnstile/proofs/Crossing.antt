-- A turnstile may go to another thread, and be shared with it, where its states may go there. The check finds no proof of it for a struct that holds a snapshot: these are the pieces, by name.
use denote.RattleType.{RattleType}
use denote.Param.Send as Send
use denote.Struct.Declared as Declared
use Rattle.std.below.std_alloc.proofs.boxed.Box.TheSendSync as boxed
use Rattle.std.specs.contracts.boxed.Box as Box
use Rattle.std.specs.contracts.option.Option as Option
use Rattle.std.specs.contracts.snapshot.Snapshot as Snapshot
use Rattle.std.proofs.alloc.Global.TheSendSync as global
use Rattle.std.below.std_heap.proofs.GlobalAllocator.TheSendSync as heap
use Rattle.std.specs.contracts.alloc.Global as Global
use Rattle.std.specs.contracts.impls.GlobalAllocator.TheImpl as allocator
use Rattle.atomic_table.proofs.owned.Table.TheSendSync as table
use Rattle.turnstile.specs.contracts.board.Held as Held
use Rattle.atomic_table.specs.contracts.badge.Badge as Badge
use Rattle.atomic_table.proofs.badge.Badge.TheSendSync as badge
use Rattle.turnstile.specs.contracts.Pass as Pass
use Rattle.turnstile.specs.contracts.Pass.TheInside as InPass
use Rattle.std.proofs.sync.atomic.AtomicU64.TheSendSync as word
use Rattle.turnstile.specs.contracts.line.Line as Line
use Rattle.turnstile.specs.contracts.Turnstile as Turnstile
use Rattle.turnstile.specs.contracts.Turnstile.TheInside as Inside
use Rattle.turnstile.specs.contracts.Turn as Turn
use Rattle.turnstile.specs.contracts.Turn.TheInside as InTurn
use Rattle.turnstile.specs.contracts.board.View as View
use Rattle.turnstile.specs.contracts.board.Opened as Opened
use Rattle.turnstile.specs.contracts.board.Turns as Turns
use Rattle.turnstile.specs.contracts.board.TurnsTableRuleOptionHeldBoxEntryViewOpenedBox.TheImpl as rule
use Rattle.atomic_table.specs.contracts.owned.Table as Table
use Rattle.atomic_table.specs.declared.shared.TableRule as Rule
use Rattle.atomic_table.proofs.shared.Seat.TheSendSync as seat
use Rattle.turnstile.specs.declared.sequential.Sequential as Sequential

line_send : Send.IsSend (Line.the_field).row
line_send = let h = word.the_send in search Send.sendable depth 20

line_sync : Send.IsSync (Line.the_field).row
line_sync = let h = word.the_sync in search Send.sendable depth 20

nothing_owned : (T : RattleType) → Send.IsSend (Snapshot.the_field T).row
nothing_owned T = record { owned = λ d vs. ((λ vss. (tt, ((λ uss. (tt, tt)), tt))), tt); leaving = λ k f vs. tt }

pub pass_send : Send.IsSend Pass.the_row
pass_send = Send.view_send InPass.the_row _ _ _ _ (Send.recorded_send InPass.the_field.row _ _ InPass.the_type.to_one (Send.struct_send (Declared.shape InPass.the_type) (Send.plain_send _ _ _ _ _, (badge.the_send View.the_row, (nothing_owned (Badge.the_row View.the_row), tt)))))

module _ (S E : RattleType) (s : Send.IsSend S) where
  abbrev state : RattleType
  state = Box.the_row S Global.the_row allocator.ghosts

  state_send : Send.IsSend state
  state_send = boxed.the_send S Global.the_row allocator.ghosts s global.the_send heap.the_frees

  held_send : Send.IsSend (Held.the_row state E)
  held_send = Send.recorded_send (Held.the_field state E).row _ _ (Held.the_type state E).to_one (Send.struct_send (Declared.shape (Held.the_type state E)) (state_send, (nothing_owned (Option.the_row E), (nothing_owned (Snapshot.the_row (Badge.the_row View.the_row)), tt))))

  slot_send : Send.IsSend (Option.the_row (Held.the_row state E))
  slot_send = let h = held_send in search Send.sendable depth 20

module _ (S E : RattleType) (g : Sequential.Ghosts S.Denot E.Denot) (s : Send.IsSend S) where
  abbrev slot : RattleType
  slot = Option.the_row (Held.the_row (state S E s) E)

  abbrev opened : RattleType
  opened = Opened.the_row (state S E s)

  abbrev kept : Rule.Ghosts (Turns.the_row S).Denot slot.Denot (View.the_row).Denot opened.Denot
  kept = rule.ghosts S E g rule.no_dict rule.no_dict

  table_send : Send.IsSend (Table.the_field slot View.the_row opened (Turns.the_row S) Global.the_row kept allocator.ghosts).row
  table_send = table.the_field_send slot View.the_row opened (Turns.the_row S) Global.the_row kept allocator.ghosts (slot_send S E s) global.the_send heap.the_frees

  table_sync : Send.IsSync (Table.the_field slot View.the_row opened (Turns.the_row S) Global.the_row kept allocator.ghosts).row
  table_sync = table.the_field_sync slot View.the_row opened (Turns.the_row S) Global.the_row kept allocator.ghosts (slot_send S E s) global.the_send global.the_sync heap.the_frees

  pub turnstile_send : Send.IsSend (Turnstile.the_row S E g)
  turnstile_send = Send.view_send (Inside.the_row S E g) _ _ _ _ (Send.recorded_send (Inside.the_field S E g).row _ _ (Inside.the_type S E g).to_one (Send.struct_send (Declared.shape (Inside.the_type S E g)) (table_send, (line_send, (line_send, tt)))))

  pub turnstile_sync : Send.IsSync (Turnstile.the_row S E g)
  turnstile_sync = Send.view_sync (Inside.the_row S E g) _ _ _ _ (Send.recorded_sync (Inside.the_field S E g).row _ _ (Inside.the_type S E g).to_one (Send.struct_sync (Declared.shape (Inside.the_type S E g)) (table_sync, (line_sync, (line_sync, tt)))))

  pub turn_send : Send.IsSend (Turn.the_row S E g)
  turn_send = Send.view_send (InTurn.the_row S E g) _ _ _ _ (Send.recorded_send (InTurn.the_field S E g).row _ _ (InTurn.the_type S E g).to_one (Send.struct_send (Declared.shape (InTurn.the_type S E g)) (seat.the_send slot View.the_row (slot_send S E s), (state_send S E s, tt))))
