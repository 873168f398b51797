use Rattle.std.proofs.Common.{◌≡◌, ◌∙◌, [], Ok, Err, refl, sym, ap, subst, inr}
use Rattle.fca_model.specs.declared.Event.TheVariants.{Draw, Confirm, Row, Leave}
use Rattle.fca_model.specs.Exploration.{SetEvent}
use Rattle.expert_wire.specs.declared.requests.Request.TheVariants.{Draw as DrawAsked, Confirm as ConfirmAsked, Row as RowAsked}
use Rattle.expert_wire.specs.declared.requests.Request.TheVariants.{Leave as LeaveAsked}
use Rattle.expert_wire.specs.Requests.{TakesMemory, request_form}
use Rattle.expert_gate.proofs.DeskLemmas.{plays-works, Works-nil}
use Rattle.expert_sessions.specs.Lines.{Asks}
use Rattle.expert_sessions.specs.Moves.{desk_progress_of}
use Rattle.expert_sessions.proofs.MoveLemmas.{Enters-nil}
use Rattle.expert_sessions.proofs.CourseLemmas.{turn-answered, turn-refused}
use Rattle.expert_sessions.proofs.answer.answer.Goals as goal

pub returns-in-Ok-Draw-clause-answered : goal.returns-in-Ok-Draw-clause-answered
returns-in-Ok-Draw-clause-answered g c =
    let e = (g.D.Desk.state c.args.desk.now).number in
    let event : SetEvent = Draw e in
    let wide : c.width.result ≡ c.args.table.now.context.width = c.width.ensures.width ∙ ap (λ K. K.width) c.rows.ensures.rows in
    let form : request_form c.args.line.now c.width.result ≡ Ok DrawAsked = c.in-Ok-Draw.ensures.ok ∙ ap Ok c.in-Ok-Draw.field-0-is in
    let told : request_form c.args.line.now c.args.table.now.context.width ≡ Ok DrawAsked = ap (request_form c.args.line.now) (sym wide)
    ∙ form in
    rw c.said_of.ensures (turn-answered e (request_form c.args.line.now c.args.table.now.context.width) event
    (desk_progress_of (g.D.Desk.state c.args.desk.now))
    (desk_progress_of (g.D.Desk.state c.draw.new.self))
    (subst (λ f. Asks e f event) (sym told) refl) c.draw.ensures.turn.left c.draw.result c.draw.ensures.turn.entry c.draw.ensures.turn.err
    c.draw.ensures.turn.spent)

pub returns-in-Ok-Confirm-clause-answered : goal.returns-in-Ok-Confirm-clause-answered
returns-in-Ok-Confirm-clause-answered g c =
    let e = (g.D.Desk.state c.args.desk.now).number in
    let event : SetEvent = Confirm e in
    let wide : c.width.result ≡ c.args.table.now.context.width = c.width.ensures.width ∙ ap (λ K. K.width) c.rows.ensures.rows in
    let form : request_form c.args.line.now c.width.result ≡ Ok ConfirmAsked = c.in-Ok-Confirm.ensures.ok
    ∙ ap Ok c.in-Ok-Confirm.field-0-is in
    let told : request_form c.args.line.now c.args.table.now.context.width ≡ Ok ConfirmAsked = ap (request_form c.args.line.now) (sym wide)
    ∙ form in
    rw c.said_of-in-Ok-Confirm.ensures (turn-answered e (request_form c.args.line.now c.args.table.now.context.width) event
    (desk_progress_of (g.D.Desk.state c.args.desk.now))
    (desk_progress_of (g.D.Desk.state c.confirm.new.self))
    (subst (λ f. Asks e f event) (sym told) refl) c.confirm.ensures.turn.left c.confirm.result c.confirm.ensures.turn.entry
    c.confirm.ensures.turn.err c.confirm.ensures.turn.spent)

pub returns-in-Ok-Row-clause-answered : goal.returns-in-Ok-Row-clause-answered
returns-in-Ok-Row-clause-answered g c =
    let e = (g.D.Desk.state c.args.desk.now).number in
    let event : SetEvent = Row e c.in-Ok-Row.name c.in-Ok-Row.row in
    let wide : c.width.result ≡ c.args.table.now.context.width = c.width.ensures.width ∙ ap (λ K. K.width) c.rows.ensures.rows in
    let form : request_form c.args.line.now c.width.result ≡ Ok (RowAsked c.in-Ok-Row.name c.in-Ok-Row.row) = c.in-Ok-Row.ensures.ok
    ∙ ap Ok c.in-Ok-Row.field-0-is in
    let told : request_form c.args.line.now c.args.table.now.context.width ≡ Ok (RowAsked c.in-Ok-Row.name c.in-Ok-Row.row) =
    ap (request_form c.args.line.now) (sym wide) ∙ form in
    rw c.said_of-in-Ok-Row.ensures (turn-answered e (request_form c.args.line.now c.args.table.now.context.width) event
    (desk_progress_of (g.D.Desk.state c.args.desk.now))
    (desk_progress_of (g.D.Desk.state c.row.new.self))
    (subst (λ f. Asks e f event) (sym told) refl) c.row.ensures.turn.left c.row.result c.row.ensures.turn.entry c.row.ensures.turn.err
    c.row.ensures.turn.spent)

pub returns-in-Ok-Leave-clause-answered : goal.returns-in-Ok-Leave-clause-answered
returns-in-Ok-Leave-clause-answered g c =
    let e = (g.D.Desk.state c.args.desk.now).number in
    let event : SetEvent = Leave e in
    let wide : c.width.result ≡ c.args.table.now.context.width = c.width.ensures.width ∙ ap (λ K. K.width) c.rows.ensures.rows in
    let form : request_form c.args.line.now c.width.result ≡ Ok LeaveAsked = c.in-Ok-Leave.ensures.ok ∙ ap Ok c.in-Ok-Leave.field-0-is in
    let told : request_form c.args.line.now c.args.table.now.context.width ≡ Ok LeaveAsked = ap (request_form c.args.line.now) (sym wide)
    ∙ form in
    rw c.said_of-in-Ok-Leave.ensures (turn-answered e (request_form c.args.line.now c.args.table.now.context.width) event
    (desk_progress_of (g.D.Desk.state c.args.desk.now))
    (desk_progress_of (g.D.Desk.state c.leave.new.self))
    (subst (λ f. Asks e f event) (sym told) refl) c.leave.ensures.turn.left c.leave.result c.leave.ensures.turn.entry
    c.leave.ensures.turn.err c.leave.ensures.turn.spent)

pub returns-in-Err-Memory-clause-answered : goal.returns-in-Err-Memory-clause-answered
returns-in-Err-Memory-clause-answered g c =
    let wide : c.width.result ≡ c.args.table.now.context.width = c.width.ensures.width ∙ ap (λ K. K.width) c.rows.ensures.rows in
    let taken = c.read_request.ensures.memory (c.in-Err-Memory.is ∙ ap Err c.in-Err-Memory.field-0-is) in (
      [],
      0,
      (inr (subst (λ n. TakesMemory (request_form c.args.line.now n)) wide taken, refl), refl),
      Enters-nil (desk_progress_of (g.D.Desk.state c.args.desk.now)),
    )

pub returns-in-Ok-Draw-clause-spent : goal.returns-in-Ok-Draw-clause-spent
returns-in-Ok-Draw-clause-spent g c =
    let e = (g.D.Desk.state c.args.desk.now).number in
    let event : SetEvent = Draw e in
    let wide : c.width.result ≡ c.args.table.now.context.width = c.width.ensures.width ∙ ap (λ K. K.width) c.rows.ensures.rows in
    let form : request_form c.args.line.now c.width.result ≡ Ok DrawAsked = c.in-Ok-Draw.ensures.ok ∙ ap Ok c.in-Ok-Draw.field-0-is in
    let told : request_form c.args.line.now c.args.table.now.context.width ≡ Ok DrawAsked = ap (request_form c.args.line.now) (sym wide)
    ∙ form in
    rw c.said_of.ensures (turn-refused e (request_form c.args.line.now c.args.table.now.context.width) event
    (desk_progress_of (g.D.Desk.state c.args.desk.now)) (desk_progress_of (g.D.Desk.state c.draw.new.self))
    (subst (λ f. Asks e f event) (sym told) refl) c.draw.ensures.turn.left c.draw.result c.draw.ensures.turn.err c.draw.ensures.turn.spent)

pub returns-in-Ok-Draw-clause-desk : goal.returns-in-Ok-Draw-clause-desk
returns-in-Ok-Draw-clause-desk g c =
    plays-works (g.D.Wide.attribute_count c.args.desk.now) (Draw (g.D.Desk.state c.args.desk.now).number) (g.D.Desk.state c.args.desk.now)
    (g.D.Desk.state c.draw.new.self)
    c.draw.result c.draw.ensures.turn

pub returns-in-Ok-Confirm-clause-spent : goal.returns-in-Ok-Confirm-clause-spent
returns-in-Ok-Confirm-clause-spent g c =
    let e = (g.D.Desk.state c.args.desk.now).number in
    let event : SetEvent = Confirm e in
    let wide : c.width.result ≡ c.args.table.now.context.width = c.width.ensures.width ∙ ap (λ K. K.width) c.rows.ensures.rows in
    let form : request_form c.args.line.now c.width.result ≡ Ok ConfirmAsked = c.in-Ok-Confirm.ensures.ok
    ∙ ap Ok c.in-Ok-Confirm.field-0-is in
    let told : request_form c.args.line.now c.args.table.now.context.width ≡ Ok ConfirmAsked = ap (request_form c.args.line.now) (sym wide)
    ∙ form in
    rw c.said_of-in-Ok-Confirm.ensures (turn-refused e (request_form c.args.line.now c.args.table.now.context.width) event
    (desk_progress_of (g.D.Desk.state c.args.desk.now)) (desk_progress_of (g.D.Desk.state c.confirm.new.self))
    (subst (λ f. Asks e f event) (sym told) refl) c.confirm.ensures.turn.left c.confirm.result c.confirm.ensures.turn.err
    c.confirm.ensures.turn.spent)

pub returns-in-Ok-Confirm-clause-desk : goal.returns-in-Ok-Confirm-clause-desk
returns-in-Ok-Confirm-clause-desk g c =
    plays-works (g.D.Wide.attribute_count c.args.desk.now) (Confirm (g.D.Desk.state c.args.desk.now).number) (g.D.Desk.state c.args.desk.now)
    (g.D.Desk.state c.confirm.new.self)
    c.confirm.result c.confirm.ensures.turn

pub returns-in-Ok-Row-clause-spent : goal.returns-in-Ok-Row-clause-spent
returns-in-Ok-Row-clause-spent g c =
    let e = (g.D.Desk.state c.args.desk.now).number in
    let event : SetEvent = Row e c.in-Ok-Row.name c.in-Ok-Row.row in
    let wide : c.width.result ≡ c.args.table.now.context.width = c.width.ensures.width ∙ ap (λ K. K.width) c.rows.ensures.rows in
    let form : request_form c.args.line.now c.width.result ≡ Ok (RowAsked c.in-Ok-Row.name c.in-Ok-Row.row) = c.in-Ok-Row.ensures.ok
    ∙ ap Ok c.in-Ok-Row.field-0-is in
    let told : request_form c.args.line.now c.args.table.now.context.width ≡ Ok (RowAsked c.in-Ok-Row.name c.in-Ok-Row.row) =
    ap (request_form c.args.line.now) (sym wide) ∙ form in
    rw c.said_of-in-Ok-Row.ensures (turn-refused e (request_form c.args.line.now c.args.table.now.context.width) event
    (desk_progress_of (g.D.Desk.state c.args.desk.now)) (desk_progress_of (g.D.Desk.state c.row.new.self))
    (subst (λ f. Asks e f event) (sym told) refl) c.row.ensures.turn.left c.row.result c.row.ensures.turn.err c.row.ensures.turn.spent)

pub returns-in-Ok-Row-clause-desk : goal.returns-in-Ok-Row-clause-desk
returns-in-Ok-Row-clause-desk g c =
    plays-works (g.D.Wide.attribute_count c.args.desk.now) (Row (g.D.Desk.state c.args.desk.now).number c.in-Ok-Row.name c.in-Ok-Row.row)
    (g.D.Desk.state c.args.desk.now) (g.D.Desk.state c.row.new.self)
    c.row.result c.row.ensures.turn

pub returns-in-Ok-Leave-clause-spent : goal.returns-in-Ok-Leave-clause-spent
returns-in-Ok-Leave-clause-spent g c =
    let e = (g.D.Desk.state c.args.desk.now).number in
    let event : SetEvent = Leave e in
    let wide : c.width.result ≡ c.args.table.now.context.width = c.width.ensures.width ∙ ap (λ K. K.width) c.rows.ensures.rows in
    let form : request_form c.args.line.now c.width.result ≡ Ok LeaveAsked = c.in-Ok-Leave.ensures.ok ∙ ap Ok c.in-Ok-Leave.field-0-is in
    let told : request_form c.args.line.now c.args.table.now.context.width ≡ Ok LeaveAsked = ap (request_form c.args.line.now) (sym wide)
    ∙ form in
    rw c.said_of-in-Ok-Leave.ensures (turn-refused e (request_form c.args.line.now c.args.table.now.context.width) event
    (desk_progress_of (g.D.Desk.state c.args.desk.now)) (desk_progress_of (g.D.Desk.state c.leave.new.self))
    (subst (λ f. Asks e f event) (sym told) refl) c.leave.ensures.turn.left c.leave.result c.leave.ensures.turn.err
    c.leave.ensures.turn.spent)

pub returns-in-Ok-Leave-clause-desk : goal.returns-in-Ok-Leave-clause-desk
returns-in-Ok-Leave-clause-desk g c =
    plays-works (g.D.Wide.attribute_count c.args.desk.now) (Leave (g.D.Desk.state c.args.desk.now).number) (g.D.Desk.state c.args.desk.now)
    (g.D.Desk.state c.leave.new.self)
    c.leave.result c.leave.ensures.turn

pub returns-in-Ok-Quit-clause-desk : goal.returns-in-Ok-Quit-clause-desk
returns-in-Ok-Quit-clause-desk g c = Works-nil (g.D.Desk.state c.args.desk.now)

pub returns-in-Err-Line-clause-desk : goal.returns-in-Err-Line-clause-desk
returns-in-Err-Line-clause-desk g c = Works-nil (g.D.Desk.state c.args.desk.now)

pub returns-in-Err-Width-clause-desk : goal.returns-in-Err-Width-clause-desk
returns-in-Err-Width-clause-desk g c = Works-nil (g.D.Desk.state c.args.desk.now)

pub returns-in-Err-Memory-clause-desk : goal.returns-in-Err-Memory-clause-desk
returns-in-Err-Memory-clause-desk g c = Works-nil (g.D.Desk.state c.args.desk.now)
