use Rattle.std.proofs.Common.{◌<◌, ◌-◌, arith, sym, ap, ◌∙◌, subst, Some}
use Rattle.dxc_num.specs.Dimensions.{Dimensions}
use Rattle.dxc_num.specs.declared.register.Reg.TheVariants.{In, Mid}
use Rattle.fabric_core.specs.Moving.{IsMiddle}
use Rattle.fabric_words.specs.Places.{reg_word}
use Rattle.fabric_words.specs.Seats.{MoverAt, FabricId}
use Rattle.fabric_words.proofs.Asked.{mid_told, in_told, port_told, leg_told}
use Rattle.fabric_words.proofs.mover.MoverSeat.leg_at.Goals as goal

pub load-mid_word-requires-clause-inside : goal.load-mid_word-requires-clause-inside
load-mid_word-requires-clause-inside c =
    let v = c.args.self.now in let z = v.fabric.size in let y = c.args.output in
    let of = c.shape-shape.ensures.value ∙ ap (λ (f : FabricId). f.size.shape) (sym c.requires.own) in
    let size = c.phase.ensures.sized in let ruled = c.phase.ensures.ruled in let inside = c.requires.inside in
    let d = c.shape-shape.result in let o = c.load-out_word.result in let k = c.middle_of-middle.result in let j = c.module_of.result in
    let out = c.load-out_word.ensures.word in let some = c.if-out_word-eq0.false in let middle = c.middle_of-middle.ensures in let row = c.module_of.ensures in
    subst (λ (s : MoverAt). IsMiddle s.fabric.size.shape k × (j < s.fabric.size.shape.modules)) (sym c.load-out_word.ensures.same) (mid_told z v.mover y size ruled inside d o k j of out some middle row)

pub overflow_sub-input_module : goal.overflow_sub-input_module
overflow_sub-input_module c =
    let v = c.args.self.now in let z = v.fabric.size in let y = c.args.output in
    let of = c.shape-shape.ensures.value ∙ ap (λ (f : FabricId). f.size.shape) (sym c.requires.own) in
    let size = c.phase.ensures.sized in let ruled = c.phase.ensures.ruled in let inside = c.requires.inside in
    let d = c.shape-shape.result in let o = c.load-out_word.result in let k = c.middle_of-middle.result in let j = c.module_of.result in
    let out = c.load-out_word.ensures.word in let some = c.if-out_word-eq0.false in let middle = c.middle_of-middle.ensures in let row = c.module_of.ensures in
    let q = c.load-mid_word.result in
    let mid = c.load-mid_word.ensures.word ∙ ap (λ (s : MoverAt). reg_word s.fabric.size.shape s.mover.registers (Mid k j)) c.load-out_word.ensures.same in
    (in_told z v.mover y size ruled inside d o k j of out some middle row q mid).0

pub overflow_cast-input_module : goal.overflow_cast-input_module
overflow_cast-input_module c =
    let v = c.args.self.now in let z = v.fabric.size in let y = c.args.output in
    let of = c.shape-shape.ensures.value ∙ ap (λ (f : FabricId). f.size.shape) (sym c.requires.own) in
    let size = c.phase.ensures.sized in let ruled = c.phase.ensures.ruled in let inside = c.requires.inside in
    let d = c.shape-shape.result in let o = c.load-out_word.result in let k = c.middle_of-middle.result in let j = c.module_of.result in
    let out = c.load-out_word.ensures.word in let some = c.if-out_word-eq0.false in let middle = c.middle_of-middle.ensures in let row = c.module_of.ensures in
    let q = c.load-mid_word.result in
    let mid = c.load-mid_word.ensures.word ∙ ap (λ (s : MoverAt). reg_word s.fabric.size.shape s.mover.registers (Mid k j)) c.load-out_word.ensures.same in
    let low = (in_told z v.mover y size ruled inside d o k j of out some middle row q mid).1 in let shape = size.shape in let most = shape.most_modules in omega arith

pub load-in_word-requires-clause-inside : goal.load-in_word-requires-clause-inside
load-in_word-requires-clause-inside c =
    let v = c.args.self.now in let z = v.fabric.size in let y = c.args.output in
    let of = c.shape-shape.ensures.value ∙ ap (λ (f : FabricId). f.size.shape) (sym c.requires.own) in
    let size = c.phase.ensures.sized in let ruled = c.phase.ensures.ruled in let inside = c.requires.inside in
    let d = c.shape-shape.result in let o = c.load-out_word.result in let k = c.middle_of-middle.result in let j = c.module_of.result in
    let out = c.load-out_word.ensures.word in let some = c.if-out_word-eq0.false in let middle = c.middle_of-middle.ensures in let row = c.module_of.ensures in
    let q = c.load-mid_word.result in
    let mid = c.load-mid_word.ensures.word ∙ ap (λ (s : MoverAt). reg_word s.fabric.size.shape s.mover.registers (Mid k j)) c.load-out_word.ensures.same in
    subst (λ (s : MoverAt). (q - 1 < s.fabric.size.shape.modules) × IsMiddle s.fabric.size.shape k) (sym (c.load-mid_word.ensures.same ∙ c.load-out_word.ensures.same)) ((in_told z v.mover y size ruled inside d o k j of out some middle row q mid).1, (mid_told z v.mover y size ruled inside d o k j of out some middle row).0)

pub overflow_sub-in_word : goal.overflow_sub-in_word
overflow_sub-in_word c =
    let v = c.args.self.now in let z = v.fabric.size in let y = c.args.output in
    let of = c.shape-shape.ensures.value ∙ ap (λ (f : FabricId). f.size.shape) (sym c.requires.own) in
    let size = c.phase.ensures.sized in let ruled = c.phase.ensures.ruled in let inside = c.requires.inside in
    let d = c.shape-shape.result in let o = c.load-out_word.result in let k = c.middle_of-middle.result in let j = c.module_of.result in
    let out = c.load-out_word.ensures.word in let some = c.if-out_word-eq0.false in let middle = c.middle_of-middle.ensures in let row = c.module_of.ensures in
    let q = c.load-mid_word.result in
    let mid = c.load-mid_word.ensures.word ∙ ap (λ (s : MoverAt). reg_word s.fabric.size.shape s.mover.registers (Mid k j)) c.load-out_word.ensures.same in
    let i = c.load-in_word.result in
    let inn = c.load-in_word.ensures.word ∙ ap (λ (s : MoverAt). reg_word s.fabric.size.shape s.mover.registers (In (q - 1) k)) (c.load-mid_word.ensures.same ∙ c.load-out_word.ensures.same) in
    (port_told z v.mover y size ruled inside d o k j of out some middle row q mid i inn).0

pub overflow_cast-in_word : goal.overflow_cast-in_word
overflow_cast-in_word c =
    let v = c.args.self.now in let z = v.fabric.size in let y = c.args.output in
    let of = c.shape-shape.ensures.value ∙ ap (λ (f : FabricId). f.size.shape) (sym c.requires.own) in
    let size = c.phase.ensures.sized in let ruled = c.phase.ensures.ruled in let inside = c.requires.inside in
    let d = c.shape-shape.result in let o = c.load-out_word.result in let k = c.middle_of-middle.result in let j = c.module_of.result in
    let out = c.load-out_word.ensures.word in let some = c.if-out_word-eq0.false in let middle = c.middle_of-middle.ensures in let row = c.module_of.ensures in
    let q = c.load-mid_word.result in
    let mid = c.load-mid_word.ensures.word ∙ ap (λ (s : MoverAt). reg_word s.fabric.size.shape s.mover.registers (Mid k j)) c.load-out_word.ensures.same in
    let i = c.load-in_word.result in
    let inn = c.load-in_word.ensures.word ∙ ap (λ (s : MoverAt). reg_word s.fabric.size.shape s.mover.registers (In (q - 1) k)) (c.load-mid_word.ensures.same ∙ c.load-out_word.ensures.same) in
    let low = (port_told z v.mover y size ruled inside d o k j of out some middle row q mid i inn).1 in let shape = size.shape in let most = shape.most_slots in omega arith

pub port_of-input-requires : goal.port_of-input-requires
port_of-input-requires c =
    let v = c.args.self.now in let z = v.fabric.size in let y = c.args.output in
    let of = c.shape-shape.ensures.value ∙ ap (λ (f : FabricId). f.size.shape) (sym c.requires.own) in
    let size = c.phase.ensures.sized in let ruled = c.phase.ensures.ruled in let inside = c.requires.inside in
    let d = c.shape-shape.result in let o = c.load-out_word.result in let k = c.middle_of-middle.result in let j = c.module_of.result in
    let out = c.load-out_word.ensures.word in let some = c.if-out_word-eq0.false in let middle = c.middle_of-middle.ensures in let row = c.module_of.ensures in
    let q = c.load-mid_word.result in
    let mid = c.load-mid_word.ensures.word ∙ ap (λ (s : MoverAt). reg_word s.fabric.size.shape s.mover.registers (Mid k j)) c.load-out_word.ensures.same in
    let i = c.load-in_word.result in
    let inn = c.load-in_word.ensures.word ∙ ap (λ (s : MoverAt). reg_word s.fabric.size.shape s.mover.registers (In (q - 1) k)) (c.load-mid_word.ensures.same ∙ c.load-out_word.ensures.same) in
    subst (λ (s : Dimensions). (q - 1 < s.modules) × (i - 1 < s.slots)) (sym of) ((in_told z v.mover y size ruled inside d o k j of out some middle row q mid).1, (port_told z v.mover y size ruled inside d o k j of out some middle row q mid i inn).1)

pub returns-clause-leg : goal.returns-clause-leg
returns-clause-leg c =
    let v = c.args.self.now in let z = v.fabric.size in let y = c.args.output in
    let of = c.shape-shape.ensures.value ∙ ap (λ (f : FabricId). f.size.shape) (sym c.requires.own) in
    let size = c.phase.ensures.sized in let ruled = c.phase.ensures.ruled in let inside = c.requires.inside in
    let d = c.shape-shape.result in let o = c.load-out_word.result in let k = c.middle_of-middle.result in let j = c.module_of.result in
    let out = c.load-out_word.ensures.word in let some = c.if-out_word-eq0.false in let middle = c.middle_of-middle.ensures in let row = c.module_of.ensures in
    let q = c.load-mid_word.result in
    let mid = c.load-mid_word.ensures.word ∙ ap (λ (s : MoverAt). reg_word s.fabric.size.shape s.mover.registers (Mid k j)) c.load-out_word.ensures.same in
    let i = c.load-in_word.result in
    let inn = c.load-in_word.ensures.word ∙ ap (λ (s : MoverAt). reg_word s.fabric.size.shape s.mover.registers (In (q - 1) k)) (c.load-mid_word.ensures.same ∙ c.load-out_word.ensures.same) in
    ap (λ x. Some (record { input = x; middle = k })) c.port_of-input.ensures ∙ leg_told z v.mover y size ruled inside d o k j of out some middle row q mid i inn
