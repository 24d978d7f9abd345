-- A code that isn't one of those that keep users.
use Rattle.std.specs.Prelude.{IfOk, if◌then◌else◌, is_some}
use Rattle.std.proofs.Common.{◌≡◌, ℕ, Bool, true, false, Option, Some, None, Result, Ok, Err, List, refl, ap, true≢false}
use Rattle.dxc_model.specs.declared.cause.Cause.{Cause}
use Rattle.dxc_model.specs.declared.cause.Cause.TheVariants.{UnknownCommand}
use Rattle.dxc_model.specs.declared.user.SessionUser.{SessionUser}
use Rattle.tl1_text.specs.Grammar.{Block}
use Rattle.tl1_command.specs.Blocks.{code_text, is_empty}
use Rattle.tl1_command.specs.Meanings.{◌>>=◌, or_cause, unless}
use Rattle.tl1_users.specs.declared.code.UserCode.{UserCode}
use Rattle.tl1_users.specs.declared.code.UserCode.TheVariants.{Enter, Edit, Delete, Rows, EditPid, Cancel}
use Rattle.tl1_users.specs.declared.op.UserOp.TheVariants as op
use Rattle.tl1_users.specs.Commands.{Named, asked, class_given, class_of, code_named, first_refusal, named_in, own_given, uid_given, user_meaning}
use Rattle.craft_session.specs.Readings.{IsCommand}

pub unnamed : (code : Option UserCode) → is_some code ≡ false → code ≡ None
unnamed None is = refl
unnamed (Some code) is = absurd (true≢false is)

pub none_is_unknown : (sid : List ℕ) (user : SessionUser) (bs : List Block) → code_named (code_text bs) ≡ None → user_meaning sid user bs ≡ Err UnknownCommand
unfolding user_meaning
none_is_unknown sid user bs none = ap (λ (c : Option UserCode). or_cause c UnknownCommand >>= (λ code. unless (first_refusal sid user code bs) (asked user code (named_in bs)))) none

-- what comes of steps one after the other
bound : {A B : Type 0} (P : B → Type 0) (r : Result A Cause) (f : A → Result B Cause) → ((x : A) → IfOk (f x) P) → IfOk (r >>= f) P
bound P (Ok x) f all = all x
bound P (Err q) f all = tt

chosen : {B : Type 0} (P : B → Type 0) (b : Bool) (x y : Result B Cause) → IfOk x P → IfOk y P → IfOk (if b then x else y) P
chosen P true x y first second = first
chosen P false x y first second = second

unrefused : {B : Type 0} (P : B → Type 0) (q : Option Cause) (x : Result B Cause) → IfOk x P → IfOk (unless q x) P
unrefused P None x fits = fits
unrefused P (Some q) x fits = tt

-- no command asks for a look or a log-in
asked_command : (user : SessionUser) (code : UserCode) (n : Named) → IfOk (asked user code n) IsCommand
asked_command user Enter n = bound IsCommand (class_of n.second) _ (λ class. bound IsCommand (uid_given n.uid) _ (λ uid. tt))
asked_command user Edit n = bound IsCommand (class_given n.second) _ (λ class. bound IsCommand (uid_given n.uid) _ (λ uid. tt))
asked_command user Delete n = bound IsCommand (uid_given n.uid) _ (λ uid. tt)
asked_command user Rows n = chosen IsCommand (is_empty n.uid) (Ok (op.Rows None)) _ tt (bound IsCommand (uid_given n.uid) _ (λ uid. tt))
asked_command user EditPid n = bound IsCommand (own_given user n.uid) _ (λ uid. tt)
asked_command user Cancel n = bound IsCommand (uid_given n.uid) _ (λ uid. tt)

pub is_command : (sid : List ℕ) (user : SessionUser) (bs : List Block) → IfOk (user_meaning sid user bs) IsCommand
unfolding user_meaning
is_command sid user bs = bound IsCommand (or_cause (code_named (code_text bs)) UnknownCommand) _ (λ code. unrefused IsCommand (first_refusal sid user code bs) (asked user code (named_in bs)) (asked_command user code (named_in bs)))
