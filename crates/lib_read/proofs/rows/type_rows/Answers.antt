use Rattle.toml.specs.View.{view}
use Rattle.arch_model.specs.Library.{IsTypeRow}
use Rattle.lib_read.specs.declared.fault.TableName.TheVariants.{Types}
use Rattle.lib_read.specs.Tree.{rows_of}
use Rattle.lib_read.specs.Rows.{type_row}
use Rattle.lib_read.proofs.CleanLibrary.{row_of_made}
use Rattle.lib_read.proofs.rows.type_rows.Goals as goal

pub type_row-requires : goal.type_row-requires
type_row-requires c = row_of_made IsTypeRow type_row c.rows_of-rows.result.now (rows_of Types (view c.args.top.now)) c.rows_of-rows.ensures c.requires c.loop-row.row-index c.row-item.result c.loop-row-test.true c.row-item.is
