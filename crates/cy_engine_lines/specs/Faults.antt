-- The numbers of faults, and where they point (own).
use Rattle.std.specs.Prelude.{ℕ, Option, None}
use Rattle.cy_lexer.specs.declared.faults.LexFault.{LexFault}
use Rattle.cy_lexer.specs.declared.faults.LexFault.TheVariants as lex
use Rattle.cy_lexer.specs.Faults as lexer
use Rattle.cy_parser.specs.declared.faults.ParseFault.{ParseFault}
use Rattle.cy_parser.specs.declared.faults.ParseFault.TheVariants as parse
use Rattle.cy_parser.specs.Faults as parser
use Rattle.cy_scope_kinds.specs.declared.faults.ScopeFault.{ScopeFault}
use Rattle.cy_scope_kinds.specs.declared.faults.ScopeFault.TheVariants as scope
use Rattle.cy_scope_kinds.specs.declared.faults.ViewFault.{ViewFault}
use Rattle.cy_scope_kinds.specs.declared.faults.ViewFault.TheVariants as view
use Rattle.cy_scope_kinds.specs.Faults.{scope_code, view_code}
use Rattle.cy_graph.specs.declared.faults.GraphFault.{GraphFault}
use Rattle.cy_index.specs.declared.faults.IndexFault.{IndexFault}
use Rattle.cy_index.specs.declared.faults.IndexFault.TheVariants as index
use Rattle.cy_expr.specs.declared.faults.EvalFault.{EvalFault}
use Rattle.cy_updates_meaning.specs.declared.faults.UpdateFault.{UpdateFault}
use Rattle.cy_updates_meaning.specs.declared.faults.UpdateFault.TheVariants as update
use Rattle.cy_updates_meaning.specs.Faults as updates
use Rattle.cy_engine_views.specs.declared.faults.UpkeepFault.{UpkeepFault}
use Rattle.cy_engine_views.specs.declared.faults.UpkeepFault.TheVariants as upkeep
use Rattle.cy_engine_lines.specs.declared.faults.Fault.{Fault}
use Rattle.cy_engine_lines.specs.declared.faults.Fault.TheVariants.{Lex, Parse, Scope, View, Update, Full, ViewNameTaken, NoSuchView, PlanTooLarge, TooManyViews, TooManyRows, UnknownCommand, IndexThere, BadArgument, FutureTick, NoMemory}

abbrev pub code_of : Fault → ℕ
code_of (Lex fault) = lexer.code_of fault
code_of (Parse fault) = parser.code_of fault
code_of (Scope fault) = scope_code fault
code_of (View fault) = view_code fault
code_of (Update fault) = updates.code_of fault
code_of Full = 53
code_of ViewNameTaken = 60
code_of NoSuchView = 61
code_of PlanTooLarge = 67
code_of TooManyViews = 68
code_of TooManyRows = 69
code_of UnknownCommand = 70
code_of IndexThere = 71
code_of BadArgument = 72
code_of FutureTick = 73
code_of NoMemory = 90

-- a byte of the line, where the fault points at one
abbrev pub offset_of : Fault → Option ℕ
offset_of (Lex fault) = lexer.at_of fault
offset_of (Parse fault) = parser.at_of fault
offset_of _ = None

-- out of memory is one fault, whatever needed it
abbrev pub of_lexer : LexFault → Fault
of_lexer lex.NoMemory = NoMemory
of_lexer fault = Lex fault

abbrev pub of_parser : ParseFault → Fault
of_parser parse.NoMemory = NoMemory
of_parser fault = Parse fault

abbrev pub of_scope : ScopeFault → Fault
of_scope scope.NoMemory = NoMemory
of_scope fault = Scope fault

abbrev pub of_view : ViewFault → Fault
of_view view.NoMemory = NoMemory
of_view fault = View fault

abbrev pub of_update : UpdateFault → Fault
of_update update.NoMemory = NoMemory
of_update fault = Update fault

abbrev pub of_evaluation : EvalFault → Fault
of_evaluation fault = of_update (updates.of_evaluation fault)

abbrev pub of_graph : GraphFault → Fault
of_graph fault = of_update (updates.of_graph fault)

abbrev pub of_index : IndexFault → Fault
of_index index.IndexThere = IndexThere
of_index index.NoMemory = NoMemory

abbrev pub of_upkeep : UpkeepFault → Fault
of_upkeep upkeep.PlanTooLarge = PlanTooLarge
of_upkeep upkeep.TooManyRows = TooManyRows
of_upkeep upkeep.NoMemory = NoMemory
