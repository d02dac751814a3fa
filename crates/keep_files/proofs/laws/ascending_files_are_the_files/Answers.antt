use Rattle.std.proofs.Common.{[]}
use Rattle.keep_files.proofs.AscendingFiles.{ascending-same}
use Rattle.keep_files.proofs.FilePlaces.{paths_good}
use Rattle.keep_files.proofs.LaidOutFiles.{ascending-sorted}
use Rattle.keep_files.proofs.laws.ascending_files_are_the_files.Goals as goal

pub returns-clause-ascending : goal.returns-clause-ascending
returns-clause-ascending c = λ fs none. ascending-sorted fs (paths_good [] fs none)

pub returns-clause-same_files : goal.returns-clause-same_files
returns-clause-same_files c = ascending-same
