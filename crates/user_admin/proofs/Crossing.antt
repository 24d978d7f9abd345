-- What places share may go to another thread where its disk may. The check finds no proof of it for a struct that holds a snapshot: these are the pieces, by name.
use denote.RattleType.{RattleType}
use denote.Param.Send as Send
use denote.Struct.Declared as Declared
use Rattle.dxc_disk.specs.declared.Disk as Disk
use Rattle.tl1_text.proofs.sid.Sid.TheSendSync as sid
use Rattle.journal_core.proofs.journal.Journal.TheSendSync as journal
use Rattle.user_admin.proofs.state.Lists.TheSendSync as lists
use Rattle.user_admin.proofs.table.UserTable.TheSendSync as table
use Rattle.std.proofs.boxed.Box.TheSendSync as boxed
use Rattle.std.specs.contracts.option.Option as Option
use Rattle.std.specs.contracts.alloc.Global as Global
use Rattle.std.specs.contracts.boxed.Box as Box
use Rattle.std.proofs.alloc.Global.TheSendSync as global
use Rattle.std.below.std_heap.proofs.GlobalAllocator.TheSendSync as heap
use Rattle.std.specs.contracts.impls.GlobalAllocator.TheImpl as allocator
use Rattle.user_admin.specs.contracts.shared.SharedUsers as SharedUsers
use Rattle.user_admin.specs.contracts.state.Lists as Lists
use Rattle.user_admin.specs.contracts.state.UserOrigin as UserOrigin
use Rattle.user_admin.specs.contracts.state.UserState as UserState

module _ (D : RattleType) (g : Disk.Ghosts D.Denot) (s : Send.IsSend D) where
  origin_field_send : Send.IsSend (UserOrigin.the_field D g).row
  origin_field_send = Send.struct_send (Declared.shape (UserOrigin.the_type D g))
      (record { owned = λ d vs. ((λ vss. (tt, ((λ uss. (tt, tt)), tt))), tt); leaving = λ k f vs. tt }, (record { owned = λ d vs. ((λ vss. (tt, ((λ uss. (tt, tt)), tt))), tt); leaving = λ k f vs. tt }, (record { owned = λ d vs. ((λ vss. (tt, ((λ uss. (tt, tt)), tt))), tt); leaving = λ k f vs. tt }, (record { owned = λ d vs. ((λ vss. (tt, ((λ uss. (tt, tt)), tt))), tt); leaving = λ k f vs. tt }, tt))))

  keeper_send : Send.IsSend (UserState.the_row D g)
  keeper_send = Send.recorded_send (UserState.the_field D g).row _ _ (UserState.the_type D g).to_one (Send.struct_send (Declared.shape (UserState.the_type D g))
      (sid.the_send, (boxed.the_send (Lists.the_row) Global.the_row allocator.ghosts lists.the_send global.the_send heap.the_frees, (journal.the_send D g s, (origin_field_send, tt)))))

  boxed_send : Send.IsSend (Box.the_row (UserState.the_row D g) Global.the_row allocator.ghosts)
  boxed_send = boxed.the_send (UserState.the_row D g) Global.the_row allocator.ghosts keeper_send global.the_send heap.the_frees

  keeper_home : Send.IsSend (Option.the_field (Box.the_row (UserState.the_row D g) Global.the_row allocator.ghosts)).row
  keeper_home = let h = boxed_send in search Send.sendable depth 20

  pub state_send : Send.IsSend (SharedUsers.the_row D g)
  state_send = Send.recorded_send (SharedUsers.the_field D g).row _ _ (SharedUsers.the_type D g).to_one (Send.struct_send (Declared.shape (SharedUsers.the_type D g))
      (sid.the_send, (table.the_send, (keeper_home, (search Send.sendable depth 20, (record { owned = λ d vs. ((λ vss. (tt, ((λ uss. (tt, tt)), tt))), tt); leaving = λ k f vs. tt }, tt))))))
