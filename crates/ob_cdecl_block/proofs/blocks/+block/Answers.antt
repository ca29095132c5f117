use Rattle.std.proofs.Common.{rules, ◌≡◌, ◌+◌, ◌-◌, List, ◌++◌, length, drop, true, suc, refl, sym, ap, subst, ◌∙◌, arith}
use Rattle.std.specs.Prelude.{reverse}
use Rattle.ob_tree.specs.declared.decl.Decl.{Decl}
use Rattle.ob_cdecl_scopes.specs.Descending.{are_within}
use Rattle.ob_cdecl_scopes.specs.Scopes.{around_of}
use Rattle.ob_cdecl_scopes.specs.Bodies.{restored}
use Rattle.ob_rules.specs.declared.entity.Known.{Known}
use Rattle.ob_rules.specs.declared.notes.Notebook.{Notebook}
use Rattle.ob_rules.specs.Books.{book_after}
use Rattle.ob_rules.specs.Names.{Around}
use Rattle.ob_rules.specs.Declarations.{Part, Contents, together, procedure_of as written_in, declaration}
use Rattle.ob_cdecl_field.proofs.LoopLaws.{step_at, end_at}
use Rattle.ob_cdecl_heading.specs.declared.head.Head.{Head as Kept}
use Rattle.ob_cdecl.specs.Seen.{contents_of}
use Rattle.ob_cdecl_block.specs.Blocks.{block_of, unbound}
use Rattle.ob_cdecl_block.specs.Steps.{left_block}
use Rattle.ob_cdecl_block.specs.Procedures.{whole, AreReady, AreBehind, judged_from, judged_first, left_of}
use Rattle.ob_cdecl_block.proofs.ProcedureLaws.{part_more, part_end_noted, part_end_added, first_ready, still_inside, known_here, here_of, here_noted, here_added, left_here, same_procedure}
use Rattle.ob_cdecl_block.proofs.Depths.{fewer_inside, no_more_in}
use Rattle.ob_cdecl_block.proofs.DeclViews.{constant_is, type_is, variables_are, none_noted, first_procedure, with_first, first_ready_one}
use Rattle.ob_cdecl_block.proofs.BlockLaws.{heads_ready, nothing_comes, judged_all, block_noted, block_added, block_bound, block_stays}
use Rattle.ob_cdecl_block.proofs.blocks.+block.Goals as goal

-- A SEQUENCE

pub block-procedures-requires : goal.block-procedures-requires
block-procedures-requires g t c κs within =
    let ty = g.E.Types.types in
    let ds = c.args.decls.now in
    let v = around_of ty c.set_later_types-outer.new.self in
    let w = around_of ty c.declare_all.new.scope in
    let ready = heads_ready c.is_module_level-level.result ds v w (reverse c.in_ok-heads.heads.items) c.in_ok-heads.ensures.around c.in_ok-heads.ensures.heads in
    let none = nothing_comes c.is_module_level-level.result ds v w c.in_ok-heads.ensures.around in
    search rules

pub block-returns-clause-noted : goal.block-returns-clause-noted
block-returns-clause-noted g t c =
    let ty = g.E.Types.types in
    let ds = c.args.decls.now in
    let ss = c.args.body.now in
    let u = around_of ty c.args.scope.now in
    let v = around_of ty c.set_later_types-outer.new.self in
    let w = around_of ty c.declare_all.new.scope in
    let x = around_of ty c.procedures.new.scope in
    block_noted c.is_module_level-level.result ds ss u v w c.args.book.now c.declare_all.new.book c.procedures.new.book c.add_stmts_of.new.book (contents_of c.args.contents.now) (contents_of c.declare_all.new.contents) (contents_of c.procedures.new.contents) (contents_of c.add_stmts_of.new.contents)
    (judged_all c.is_module_level-level.result ds ss u v w x c.in_ok-names.names (reverse c.in_ok-heads.heads.items) c.args.book.now c.declare_all.new.book c.procedures.new.book c.add_stmts_of.new.book (contents_of c.args.contents.now) (contents_of c.declare_all.new.contents) (contents_of c.procedures.new.contents) (contents_of c.add_stmts_of.new.contents)
    c.is_module_level-level.ensures c.in_ok-names.ensures c.set_later_types-outer.ensures.later c.in_ok-heads.ensures.around c.in_ok-heads.ensures.noted c.in_ok-heads.ensures.added c.in_ok-heads.ensures.heads c.in_ok-procedures.ensures.noted c.in_ok-procedures.ensures.added c.in_ok-procedures.ensures.stays c.in_ok-add_stmts_of.ensures.noted c.in_ok-add_stmts_of.ensures.added)

pub block-returns-clause-added : goal.block-returns-clause-added
block-returns-clause-added g t c =
    let ty = g.E.Types.types in
    let ds = c.args.decls.now in
    let ss = c.args.body.now in
    let u = around_of ty c.args.scope.now in
    let v = around_of ty c.set_later_types-outer.new.self in
    let w = around_of ty c.declare_all.new.scope in
    let x = around_of ty c.procedures.new.scope in
    block_added c.is_module_level-level.result ds ss u v w c.args.book.now c.declare_all.new.book c.procedures.new.book c.add_stmts_of.new.book (contents_of c.args.contents.now) (contents_of c.declare_all.new.contents) (contents_of c.procedures.new.contents) (contents_of c.add_stmts_of.new.contents)
    (judged_all c.is_module_level-level.result ds ss u v w x c.in_ok-names.names (reverse c.in_ok-heads.heads.items) c.args.book.now c.declare_all.new.book c.procedures.new.book c.add_stmts_of.new.book (contents_of c.args.contents.now) (contents_of c.declare_all.new.contents) (contents_of c.procedures.new.contents) (contents_of c.add_stmts_of.new.contents)
    c.is_module_level-level.ensures c.in_ok-names.ensures c.set_later_types-outer.ensures.later c.in_ok-heads.ensures.around c.in_ok-heads.ensures.noted c.in_ok-heads.ensures.added c.in_ok-heads.ensures.heads c.in_ok-procedures.ensures.noted c.in_ok-procedures.ensures.added c.in_ok-procedures.ensures.stays c.in_ok-add_stmts_of.ensures.noted c.in_ok-add_stmts_of.ensures.added) refl refl

pub block-returns-clause-stays : goal.block-returns-clause-stays
block-returns-clause-stays g t c =
    let ty = g.E.Types.types in
    let ds = c.args.decls.now in
    let ss = c.args.body.now in
    let u = around_of ty c.args.scope.now in
    let v = around_of ty c.set_later_types-outer.new.self in
    let w = around_of ty c.declare_all.new.scope in
    let x = around_of ty c.procedures.new.scope in
    let z = around_of ty c.leave_block.new.scope in
    let m = c.mark-mark.result in
    let names = c.set_later_types-outer.result in
    block_stays c.is_module_level-level.result ds u v w z m c.in_ok-names.names names c.is_module_level-level.ensures c.set_later_types-outer.ensures.later c.in_ok-heads.ensures.around c.in_ok-heads.ensures.grows c.mark-mark.ensures.known c.mark-mark.ensures.own c.set_later_types-outer.ensures.before
    (c.leave_block.ensures ∙ ap (left_block c.is_module_level-level.result m names) (c.in_ok-add_stmts_of.ensures.around ∙ c.in_ok-procedures.ensures.stays))

pub block-returns-clause-bound : goal.block-returns-clause-bound
block-returns-clause-bound g t c =
    let ty = g.E.Types.types in
    let ds = c.args.decls.now in
    let ss = c.args.body.now in
    let u = around_of ty c.args.scope.now in
    let v = around_of ty c.set_later_types-outer.new.self in
    let w = around_of ty c.declare_all.new.scope in
    let x = around_of ty c.procedures.new.scope in
    let z = around_of ty c.leave_block.new.scope in
    let m = c.mark-mark.result in
    let names = c.set_later_types-outer.result in
    block_bound c.is_module_level-level.result ds ss u v w z m names c.args.book.now c.declare_all.new.book c.procedures.new.book c.add_stmts_of.new.book (contents_of c.args.contents.now) (contents_of c.declare_all.new.contents) (contents_of c.procedures.new.contents) (contents_of c.add_stmts_of.new.contents)
    (judged_all c.is_module_level-level.result ds ss u v w x c.in_ok-names.names (reverse c.in_ok-heads.heads.items) c.args.book.now c.declare_all.new.book c.procedures.new.book c.add_stmts_of.new.book (contents_of c.args.contents.now) (contents_of c.declare_all.new.contents) (contents_of c.procedures.new.contents) (contents_of c.add_stmts_of.new.contents)
    c.is_module_level-level.ensures c.in_ok-names.ensures c.set_later_types-outer.ensures.later c.in_ok-heads.ensures.around c.in_ok-heads.ensures.noted c.in_ok-heads.ensures.added c.in_ok-heads.ensures.heads c.in_ok-procedures.ensures.noted c.in_ok-procedures.ensures.added c.in_ok-procedures.ensures.stays c.in_ok-add_stmts_of.ensures.noted c.in_ok-add_stmts_of.ensures.added) refl refl refl
    (c.leave_block.ensures ∙ ap (left_block c.is_module_level-level.result m names) (c.in_ok-add_stmts_of.ensures.around ∙ c.in_ok-procedures.ensures.stays))

-- PROCEDURES IN TURN

pub procedures-procedure_if-requires : goal.procedures-procedure_if-requires
procedures-procedure_if-requires g t c κs within =
    let ty = g.E.Types.types in
    let u = around_of ty c.args.scope.now in
    let all_is : whole (around_of ty c.declarations.scope) c.declarations.aside ≡ u = c.declarations.invariant.around in
    let ready = subst (λ (y : Around). AreReady y.scope y.known (reverse c.declarations.left.items)) (sym all_is) c.declarations.invariant.ready in
    let fall = subst (λ (y : Around). are_within y.scope y.known ≡ true) (sym all_is) c.mark-all.ensures.fall in
    let coming = ap (λ (y : Around). y.coming) all_is ∙ c.requires.coming in
    (no_more_in c.args.decls.now c.declarations.d-index c.d-item.result t (omega arith) c.d-item.is c.decreases, (within.0, (within.1, (ready, (fall, coming)))))

pub procedures-declarations-preserved : goal.procedures-declarations-preserved
procedures-declarations-preserved g t c =
    let ty = g.E.Types.types in
    let xs = c.args.decls.now in
    let i = c.declarations.d-index in
    let d = c.d-item.result in
    let o = written_in (declaration d) in
    let u = around_of ty c.args.scope.now in
    let v = around_of ty c.declarations.scope in
    let all_is : whole v c.declarations.aside ≡ u = c.declarations.invariant.around in
    let known_is : c.declarations.aside.items ++ v.known ≡ u.known = ap (λ (y : Around). y.known) all_is in
    let old = reverse c.declarations.left.items in
    let rest = c.in_ok-procedure_if.ensures.rest in
    record {
      around = c.in_ok-procedure_if.ensures.stays ∙ all_is;
      ready = subst (λ (l : List Kept). AreReady u.scope u.known l) (sym rest) (first_ready u.scope u.known o old c.declarations.invariant.ready);
      parts = λ n hs k b.
          part_more (λ y ss. judged_from y xs ss) u d (drop (i + 1) xs) (drop i xs) old (reverse c.procedure_if.new.heads.items) n hs c.args.book.now c.declarations.book c.procedure_if.new.book (contents_of c.args.contents.now) (contents_of c.declarations.contents) (contents_of c.procedure_if.new.contents)
          (step_at xs i d (omega arith) c.d-item.is) rest
          (λ ss kept behind. c.in_ok-procedure_if.ensures.noted n ss kept (subst (λ (ks : List Known). AreBehind ks ss) (sym known_is) behind) ∙ ap (λ (y : Around). book_after c.declarations.book (judged_first y o ss).notes) all_is)
          (λ ss kept behind. c.in_ok-procedure_if.ensures.added n ss kept (subst (λ (ks : List Known). AreBehind ks ss) (sym known_is) behind) ∙ ap (λ (y : Around). together (contents_of c.declarations.contents) (judged_first y o ss).contents) all_is)
          (c.declarations.invariant.parts n hs k b);
    }

pub procedures-returns-clause-noted : goal.procedures-returns-clause-noted
procedures-returns-clause-noted g t c = λ n hs k b.
    let ty = g.E.Types.types in
    let xs = c.args.decls.now in
    let i = c.declarations.d-index in
    part_end_noted (λ y ss. judged_from y xs ss) (around_of ty c.args.scope.now) (drop i xs) (reverse c.declarations.left.items) n hs c.args.book.now c.declarations.book (contents_of c.args.contents.now) (contents_of c.declarations.contents) (end_at xs i (omega arith)) (c.declarations.invariant.parts n hs k b)

pub procedures-returns-clause-added : goal.procedures-returns-clause-added
procedures-returns-clause-added g t c = λ n hs k b.
    let ty = g.E.Types.types in
    let xs = c.args.decls.now in
    let i = c.declarations.d-index in
    part_end_added (λ y ss. judged_from y xs ss) (around_of ty c.args.scope.now) (drop i xs) (reverse c.declarations.left.items) n hs c.args.book.now c.declarations.book (contents_of c.args.contents.now) (contents_of c.declarations.contents) (end_at xs i (omega arith)) (c.declarations.invariant.parts n hs k b)

-- THE PROCEDURE OF ONE DECLARATION

pub procedure_if-procedure-requires : goal.procedure_if-procedure-requires
procedure_if-procedure-requires g t c κs within =
    let u = around_of g.E.Types.types c.args.scope.now in
    let ready = first_ready_one u.scope (c.args.aside.now.items ++ u.known) (reverse c.args.heads.now.items) c.in-Some.head c.in-Some.ensures.first c.requires.ready in
    let p = c.in-Procedure in
    (fewer_inside c.args.d.now p.heading p.decls c.as_slice.result.now p.body p.closing t p.is c.as_slice.ensures c.decreases, (within.0, (within.1, (ready, (c.requires.fall, c.requires.coming)))))

pub procedure_if-returns-in_ok-procedure-in-Some-clause-noted : goal.procedure_if-returns-in_ok-procedure-in-Some-clause-noted
procedure_if-returns-in_ok-procedure-in-Some-clause-noted g t c = λ n hs k b.
    let u = around_of g.E.Types.types c.args.scope.now in
    let all = whole u c.args.aside.now in
    let y = c.args.d.now in
    let p = c.in-Procedure in
    let F : Part → Notebook = λ q. book_after c.args.book.now q.notes in
    with_first (λ ss. c.procedure.new.book ≡ F (judged_first all (written_in (declaration y)) ss)) n (c.args.aside.now.items ++ u.known) (reverse c.args.heads.now.items) c.in-Some.head hs c.in-Some.ensures.first k b
    (λ s rest kept behind. c.in_ok-procedure-in-Some.ensures.noted n s kept behind ∙ ap F (same_procedure all s p.closing c.as_slice.ensures c.as_slice-in-Some.ensures ∙ sym (first_procedure all y p.heading p.decls p.body p.closing s rest p.is)))

pub procedure_if-returns-in_ok-procedure-in-Some-clause-added : goal.procedure_if-returns-in_ok-procedure-in-Some-clause-added
procedure_if-returns-in_ok-procedure-in-Some-clause-added g t c = λ n hs k b.
    let u = around_of g.E.Types.types c.args.scope.now in
    let all = whole u c.args.aside.now in
    let y = c.args.d.now in
    let p = c.in-Procedure in
    let F : Part → Contents = λ q. together (contents_of c.args.contents.now) q.contents in
    with_first (λ ss. contents_of c.procedure.new.contents ≡ F (judged_first all (written_in (declaration y)) ss)) n (c.args.aside.now.items ++ u.known) (reverse c.args.heads.now.items) c.in-Some.head hs c.in-Some.ensures.first k b
    (λ s rest kept behind. c.in_ok-procedure-in-Some.ensures.added n s kept behind ∙ ap F (same_procedure all s p.closing c.as_slice.ensures c.as_slice-in-Some.ensures ∙ sym (first_procedure all y p.heading p.decls p.body p.closing s rest p.is)))

pub procedure_if-returns-in-Constant-clause-noted : goal.procedure_if-returns-in-Constant-clause-noted
procedure_if-returns-in-Constant-clause-noted g t c = λ n hs k b.
    let all = whole (around_of g.E.Types.types c.args.scope.now) c.args.aside.now in
    none_noted all c.args.d.now hs c.args.book.now (ap (λ (y : Decl). written_in (declaration y)) c.in-Constant.is ∙ constant_is c.in-Constant.name c.in-Constant.value)

pub procedure_if-returns-in-NamedType-clause-noted : goal.procedure_if-returns-in-NamedType-clause-noted
procedure_if-returns-in-NamedType-clause-noted g t c = λ n hs k b.
    let all = whole (around_of g.E.Types.types c.args.scope.now) c.args.aside.now in
    none_noted all c.args.d.now hs c.args.book.now (ap (λ (y : Decl). written_in (declaration y)) c.in-NamedType.is ∙ type_is c.in-NamedType.name c.in-NamedType.node)

pub procedure_if-returns-in-Variables-clause-noted : goal.procedure_if-returns-in-Variables-clause-noted
procedure_if-returns-in-Variables-clause-noted g t c = λ n hs k b.
    let all = whole (around_of g.E.Types.types c.args.scope.now) c.args.aside.now in
    none_noted all c.args.d.now hs c.args.book.now (ap (λ (y : Decl). written_in (declaration y)) c.in-Variables.is ∙ variables_are c.in-Variables.names c.in-Variables.node)

-- A PROCEDURE

pub procedure-returns-clause-noted : goal.procedure-returns-clause-noted
procedure-returns-clause-noted g t c = λ n h k b.
    let u = around_of g.E.Types.types c.args.scope.now in
    let v = around_of g.E.Types.types c.show.new.self in
    let full = c.args.aside.now.items ++ u.known in
    let shown = c.in_ok-show.ensures.shown in
    c.in_ok-procedure_here.ensures.noted n h k (known_here n u v full c.args.head h k b shown) ∙ ap (λ (p : Part). book_after c.args.book.now p.notes) (here_of u v full (drop (length full - c.args.head.behind) full) h c.args.decls.now c.args.body.now c.args.closing.now shown)

pub procedure-returns-clause-added : goal.procedure-returns-clause-added
procedure-returns-clause-added g t c = λ n h k b.
    let u = around_of g.E.Types.types c.args.scope.now in
    let v = around_of g.E.Types.types c.show.new.self in
    let full = c.args.aside.now.items ++ u.known in
    let shown = c.in_ok-show.ensures.shown in
    c.in_ok-procedure_here.ensures.added n h k (known_here n u v full c.args.head h k b shown) ∙ ap (λ (p : Part). together (contents_of c.args.contents.now) p.contents) (here_of u v full (drop (length full - c.args.head.behind) full) h c.args.decls.now c.args.body.now c.args.closing.now shown)

pub procedure_here-leave_body-requires-clause-inner : goal.procedure_here-leave_body-requires-clause-inner
procedure_here-leave_body-requires-clause-inner g t c =
    let ty = g.E.Types.types in
    let u = around_of ty c.args.scope.now in
    let v = around_of ty c.open.new.scope in
    let w = around_of ty c.block.new.scope in
    let deep : w.scope ≡ suc u.scope = ap (λ (x : Around). x.scope) (still_inside u v w c.args.head c.in_ok-entered.ensures.around c.requires.coming c.in_ok-block.ensures.stays ∙ c.in_ok-entered.ensures.around) in
    omega (arith, deep)

pub procedure_here-leave_body-requires-clause-fall : goal.procedure_here-leave_body-requires-clause-fall
procedure_here-leave_body-requires-clause-fall g t c =
    let ty = g.E.Types.types in
    let u = around_of ty c.args.scope.now in
    let v = around_of ty c.open.new.scope in
    let w = around_of ty c.block.new.scope in
    let back : restored c.in_ok-entered.entered.1 w ≡ u = ap (restored c.in_ok-entered.entered.1) (still_inside u v w c.args.head c.in_ok-entered.ensures.around c.requires.coming c.in_ok-block.ensures.stays) ∙ c.in_ok-entered.ensures.outside in
    subst (λ (x : Around). are_within x.scope x.known ≡ true) (sym back) c.mark.ensures.fall

pub procedure_here-returns-clause-stays : goal.procedure_here-returns-clause-stays
procedure_here-returns-clause-stays g t c =
    let ty = g.E.Types.types in
    let u = around_of ty c.args.scope.now in
    let v = around_of ty c.open.new.scope in
    let w = around_of ty c.block.new.scope in
    left_here u v w (around_of ty c.leave_body.new.self) c.in_ok-entered.entered.1 (still_inside u v w c.args.head c.in_ok-entered.ensures.around c.requires.coming c.in_ok-block.ensures.stays) c.in_ok-entered.ensures.outside c.leave_body.ensures

pub procedure_here-returns-clause-noted : goal.procedure_here-returns-clause-noted
procedure_here-returns-clause-noted g t c = λ n h k same.
    let ty = g.E.Types.types in
    here_noted n (around_of ty c.args.scope.now) (around_of ty c.open.new.scope) c.args.head h c.args.decls.now c.args.body.now c.args.closing.now c.args.book.now c.open.new.book c.block.new.book k same c.in_ok-entered.ensures.around (c.in_ok-entered.ensures.noted n h k) c.in_ok-block.ensures.noted

pub procedure_here-returns-clause-added : goal.procedure_here-returns-clause-added
procedure_here-returns-clause-added g t c = λ n h k same.
    let ty = g.E.Types.types in
    let u = around_of ty c.args.scope.now in
    let v = around_of ty c.open.new.scope in
    let w = around_of ty c.block.new.scope in
    let z = around_of ty c.leave_body.new.self in
    let inside = (block_of c.args.decls.now c.args.body.now v).contents in
    here_added n u v z c.args.head h (left_of c.in_ok-entered.entered.0) c.args.decls.now c.args.body.now c.args.closing.now (contents_of c.args.contents.now) (contents_of c.add_procedure.new.contents) (contents_of c.block.new.contents) k same c.in_ok-entered.ensures.around
    (left_here u v w z c.in_ok-entered.entered.1 (still_inside u v w c.args.head c.in_ok-entered.ensures.around c.requires.coming c.in_ok-block.ensures.stays) c.in_ok-entered.ensures.outside c.leave_body.ensures)
    c.in_ok-entered.ensures.left
    (c.in_ok-block.ensures.added ∙ ap (λ (x : Contents). together x (unbound inside)) c.new-inner.ensures)
    c.in_ok-add_procedure.ensures
