-- Laws of the root, of binary digits and of Heron's rule. `HeronLaws` and `FewSteps` hold promises.
pub mod RootLaws
pub mod DigitsLaws
pub mod HeronLaws
pub mod LeftLaws
pub mod FewSteps
