-- `scan::scan_prefixes` meets its contract: the prefixes passed have a justification. Assumes nothing.
use Rattle.scan.proofs.ScanLaws.{Scanning}
use Rattle.scan.proofs.scan_prefixes.Given as goal

abbrev pub invariant-loop-i : goal.invariant-loop-i
invariant-loop-i l = Scanning l.starts l.log l.i l.tables l.n l.order
